-- What a change of one station's section, and an answer about it, are for the whole journal.
use Rattle.std.proofs.Common.{◌≡◌, ℕ, ◌<◌, ◌≤◌, eqb, List, length, set, sym, ap, ◌∙◌, ⊎_elim, arith}
use Rattle.journal.specs.Meaning.{Section, section, no_section, held, changed, write_answer, room_answer, served_answer, put_in, written}
use Rattle.journal.specs.declared.records.Record.{Record}
use Rattle.std.proofs.lemmas.List.{set_past, set-get_or}
use Rattle.std.proofs.lemmas.Bool.{cond-true, cond-false, cases_lt, lt-ltb, le-ltb}
use Rattle.std.proofs.lemmas.Bool.Decides.{nat_tests}

-- At a station not served a change changes nothing.
pub changed_nothing : (g : Section → Section) (m : List Section) (s : ℕ) → length m ≤ s → changed g m s ≡ m
changed_nothing g m s h = set_past m s (g (section m s)) h

-- A change that leaves the section as it is changes nothing.
pub changed_same : (g : Section → Section) (m : List Section) (s : ℕ) → g (section m s) ≡ section m s → changed g m s ≡ m
changed_same g m s e = ap (set m s) e ∙ set-get_or m s no_section

-- What a force and a cut answer.
pub served_no : (m : List Section) (s : ℕ) → length m ≤ s → served_answer m s ≡ 11
served_no m s h = grind (arith, nat_tests)

-- What a write answers.
pub write_yes : (m : List Section) (s : ℕ) → s < length m → write_answer m s ≡ room_answer (section m s)
write_yes m s h = cond-true _ _ _ (lt-ltb s (length m) h)

pub write_no : (m : List Section) (s : ℕ) → length m ≤ s → write_answer m s ≡ 11
write_no m s h = cond-false _ _ _ (le-ltb s (length m) h)

-- A write at a station not served changes nothing.
pub written_nothing : (x : Record) (m : List Section) (s : ℕ) → length m ≤ s → written x m s ≡ m
written_nothing x m s h = cond-false _ _ _ (ap (λ n. eqb n 0) (write_no m s h))

-- A write is a change of the station's section alone.
pub written_is : (x : Record) (m : List Section) (s : ℕ) → changed (put_in x) m s ≡ written x m s
written_is x m s =
    ⊎_elim
    (λ h. ⊎_elim
    (λ l.
    let room = lt-ltb (held (section m s)) (section m s).capacity l in
    ap (set m s) (cond-true _ _ _ room) ∙ sym (cond-true _ _ _ (ap (λ n. eqb n 0) (write_yes m s h ∙ cond-true _ _ _ room))))
    (λ l.
    let full = le-ltb (held (section m s)) (section m s).capacity l in
    changed_same (put_in x) m s (cond-false _ _ _ full) ∙ sym (cond-false _ _ _ (ap (λ n. eqb n 0) (write_yes m s h ∙ cond-false _ _ _ full))))
    (cases_lt (held (section m s)) (section m s).capacity))
    (λ h. changed_nothing (put_in x) m s h ∙ sym (written_nothing x m s h))
    (cases_lt s (length m))
