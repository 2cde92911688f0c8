-- The sections of two journals as those of one: where each stands, and what a change of one of them makes of the whole.
use Rattle.std.proofs.Common.{◌≡◌, ◌+◌, ◌-◌, ℕ, ◌<◌, ◌≤◌, min, List, ◌++◌, length, Option, sym, refl, ap, ◌∙◌, ⊎_elim, arith}
use Rattle.join.specs.Together.{together, Stands, Missing}
use Rattle.join.specs.Parts.{part_of, Lies}
use Rattle.join.specs.declared.Part.{Part}
use Rattle.journal.specs.Limits.{most_stations}
use Rattle.journal.specs.Meaning.{Section, section, no_section, changed, put_in, force_all, keep_first}
use Rattle.journal.proofs.Laws.{changed_nothing, served_no, write_no, written_is, written_nothing}
use Rattle.std.proofs.Math.Seq.{take-set-lt}
use Rattle.std.proofs.lemmas.List.{length-append, length-take, get_or-take, get_or_append_left, get_or-append_right, set-append_left, set-append_right, get_or_past}
use Rattle.std.proofs.lemmas.Bool.{cases_lt, lt-ltb, le-ltb}
use Rattle.std.proofs.lemmas.Bool.Decides.{nat_tests}

pub length_together : (a b : List Section) → length (together a b) ≡ min most_stations (length a + length b)
unfolding together
length_together a b = simp (length-take, length-append)

-- A station stands in a whole if it is served there where it is served in its own journal, with the same section, and
-- a change of that section is a change of the whole.
stands_from : (m : List Section) (t : ℕ) (whole : List Section → List Section) (s : ℕ) → (t < length m → s < length (whole m)) → (length m ≤ t → length (whole m) ≤ s) → section m t ≡ section (whole m) s → ((g : Section → Section) → whole (changed g m t) ≡ changed g (whole m) s) → Stands m t whole s
stands_from m t whole s here gone same change = record {
  same_section = same;
  same_write = grind (arith, nat_tests);
  same_served = grind (arith, nat_tests);
  after_write = λ x. ap whole (sym (written_is x m t)) ∙ (change (put_in x) ∙ written_is x (whole m) s);
  after_force = change force_all;
  after_cut = λ k. change (keep_first k);
}

missing_from : (m : List Section) (s : ℕ) → length m ≤ s → Missing m s
missing_from m s h = record {
  no_records = sym (get_or_past m s no_section h);
  write_refused = sym (write_no m s h);
  refused = sym (served_no m s h);
  after_write = λ x. sym (written_nothing x m s h);
  after_force = sym (changed_nothing force_all m s h);
  after_cut = λ k. sym (changed_nothing (keep_first k) m s h);
}

module _ (a b : List Section) (s : ℕ) where
  -- A station of the first journal.
  in_first : length a ≤ most_stations → s < length a → Stands a s (λ c. together c b) s
  unfolding together
  in_first few h =
      let long = length_together a b in
      let near : s < most_stations = omega arith in
      let same : section a s ≡ section (together a b) s = sym (get_or-take most_stations (a ++ b) s no_section near ∙ get_or_append_left a b no_section s h) in
      stands_from a s (λ c. together c b) s (λ l. omega arith) (λ l. omega arith) same
      (λ g. rw (← set-append_left a b s (g (section a s)) h, take-set-lt most_stations (a ++ b) s (g (section a s)) near, same))

  -- A station of the second journal, as far as a journal goes.
  in_second : length a ≤ s → s < most_stations → Stands b (s - length a) (together a) s
  unfolding together
  in_second past h =
      let long = length_together a b in
      let t = s - length a in
      let same : section b t ≡ section (together a b) s = sym (get_or-take most_stations (a ++ b) s no_section h ∙ get_or-append_right a b (length a) s no_section refl past) in
      stands_from b t (together a) s (λ l. omega arith) (λ l. omega arith) same
      (λ g. rw (← set-append_right a b (length a) s (g (section b t)) refl past, take-set-lt most_stations (a ++ b) s (g (section b t)) h, same))

  -- Each station is where its number says.
  pub lies : (r : Option Part) → length a ≤ most_stations → r ≡ part_of (length a) s → Lies a b s r
  lies r few e =
      rw e
      (⊎_elim
      (λ h. rw (lt-ltb s (length a) h) (in_first few h))
      (λ past. rw (le-ltb s (length a) past)
      (⊎_elim
      (λ h. rw (lt-ltb s most_stations h) (in_second past h))
      (λ h. rw (le-ltb s most_stations h) (missing_from (together a b) s (omega (arith, length_together a b))))
      (cases_lt s most_stations)))
      (cases_lt s (length a)))
