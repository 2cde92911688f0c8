-- The bytes of a journal stay a journal's: they are sound from its making on, and every call keeps them so.
use Rattle.std.proofs.Common.{◌*◌, ◌≡◌, ℕ, ◌+◌, ◌/◌, ◌<◌, ◌≤◌, min, true, ◌&&◌, leb, ◌⊎◌, List, length, is_some, Some, None, Option, unwrap_or, sym, refl, ap, ◌∙◌, subst, inl, inr, ⊎_elim, arith}
use Rattle.journal_bytes.proofs.Accepting.{AcceptedAt, accepted_parts, accepted_from, each_accepted, accepted_changed}
use Rattle.journal_bytes.proofs.Changing.{all_records, held_in, added_only, kept_only}
use Rattle.journal_bytes.proofs.Putting.{Only, stable_first, stable_second, stable_records, added_first, added_second, added_there, added_before, stable_long, added_long}
use Rattle.journal_bytes.proofs.Sections.{within_bytes, section_there}
use Rattle.journal_bytes.specs.Changes.{record_added, first_kept, bytes_written, bytes_kept}
use Rattle.journal_bytes.specs.Laws.{Exact, Sound}
use Rattle.journal_bytes.specs.Layout.{most_bytes, counts_bytes, capacity_of, stable_count, unforced_count, record_start, fallback, record_in, records_in, section_in, size_of, start_of, stable_of, unforced_of, room_of, sections}
use Rattle.journal_bytes.specs.Opening.{counted, accepted, all_accepted, served_in}
use Rattle.journal.specs.Bytes.{record_from}
use Rattle.journal.specs.Limits.{most_stations, record_bytes}
use Rattle.journal.specs.declared.records.Record.{Record}
use Rattle.std.proofs.lemmas.List.FromFn.{length-map-range_with_len, get_or-map-range_with_len}
use Rattle.std.proofs.lemmas.Option.{slice_get-get_or}
use Rattle.std.proofs.lemmas.Bool.{cases_lt, cases_eq, cases_Bool, and_parts, and_from, leb-true, le-leb, lt-ltb, le-ltb, cond-true, cond-false}
use Rattle.std.specs.List.{slice_get}

-- A section stays accepted when a record is added, and when the first of its records are stable and it has no others.
module _ (bs : List ℕ) (start size : ℕ) (fits : start + size ≤ length bs) where
  abbrev stable : ℕ
  stable = stable_count bs start size

  abbrev unforced : ℕ
  unforced = unforced_count bs start size

  accepted_added : (x : Record) → stable + unforced < capacity_of size → accepted bs start size ≡ true → accepted (record_added bs start stable unforced x) start size ≡ true
  accepted_added x room h =
      let cs = record_added bs start stable unforced x in
      let s = accepted_parts bs start size (omega arith) fits h in
      let r = s.room in
      let fit : record_start start (stable + unforced) + record_bytes ≤ length bs = omega arith in
      let first = added_first bs start stable unforced x fit in
      let second = added_second bs start stable unforced x fit in
      let all : stable + unforced ≡ counted bs start = omega arith in
      accepted_from cs start size (omega arith) (omega (arith, added_long bs start stable unforced x fit)) (record {
        room = omega arith;
        each = λ i l. elim (cases_eq i (stable + unforced)) [
          | inl e ↦ ap (λ k. is_some (record_from cs (record_start start k))) e ∙ ap is_some (added_there bs start stable unforced x fit)
          | inr ne ↦ ap is_some (added_before bs start stable unforced x fit i (omega arith)) ∙ s.each i (omega arith)
        ];
      })

  accepted_kept : (m : ℕ) → m ≤ stable + unforced → counts_bytes ≤ size → accepted bs start size ≡ true → accepted (first_kept bs start m) start size ≡ true
  accepted_kept m few wide h =
      let s = accepted_parts bs start size wide fits h in
      let r = s.room in
      let fit : start + counts_bytes ≤ length bs = omega arith in
      let first = stable_first bs start m fit in
      let second = stable_second bs start m fit in
      accepted_from (first_kept bs start m) start size wide (omega (arith, stable_long bs start m fit)) (record {
        room = omega arith;
        each = λ i l. ap is_some (stable_records bs start m fit i) ∙ s.each i (omega arith);
      })

-- All of n stations are served if they are few enough and all sections are accepted, and only then.
module _ (bs : List ℕ) (n : ℕ) where
  served_parts : 0 < n → served_in bs n ≡ n → (n ≤ most_stations) × (all_accepted bs (size_of bs n) 0 n ≡ true)
  served_parts some h =
      elim (cases_Bool (leb n most_stations && all_accepted bs (size_of bs n) 0 n)) [
        | inl e ↦ let p = and_parts _ _ e in (leb-true _ _ p.0, p.1)
        | inr e ↦ let z : 0 ≡ n = sym (cond-false _ _ _ e) ∙ h in absurd (omega arith)
      ]

  served_from : n ≤ most_stations → all_accepted bs (size_of bs n) 0 n ≡ true → served_in bs n ≡ n
  served_from l h = cond-true _ _ _ (and_from _ _ (le-leb n most_stations l) h)

  -- A journal is made for all stations or for none.
  served_cases : (served_in bs n ≡ n) ⊎ (served_in bs n ≡ 0)
  served_cases =
      elim (cases_Bool (leb n most_stations && all_accepted bs (size_of bs n) 0 n)) [
        | inl e ↦ inl (cond-true _ _ _ e)
        | inr e ↦ inr (cond-false _ _ _ e)
      ]

-- A change of one section that stays accepted leaves as many stations served.
served_changed : (bs cs : List ℕ) (n s : ℕ) → s < n → Only bs cs (start_of bs n s) (size_of bs n) → (accepted bs (start_of bs n s) (size_of bs n) ≡ true → accepted cs (start_of bs n s) (size_of bs n) ≡ true) → served_in bs n ≡ n → served_in cs n ≡ n
served_changed bs cs n s l only here h =
    let p = served_parts bs n (omega arith) h in
    let same_size : size_of cs n ≡ size_of bs n = ap (λ k. min k most_bytes / n) only.long in
    served_from cs n p.0 (ap (λ z. all_accepted cs z 0 n) same_size ∙ accepted_changed bs cs n s l only here p.1)

module _ (bs : List ℕ) (n s : ℕ) (h : served_in bs n ≡ n) where
  abbrev counts : ℕ
  counts = stable_of bs n s + unforced_of bs n s

  pub written_served : (x : Record) → served_in (bytes_written x bs n s) n ≡ n
  written_served x =
      ⊎_elim
      (λ l. ⊎_elim
      (λ room.
      let fits = within_bytes bs n s l in
      rw (lt-ltb s n l, lt-ltb counts (room_of bs n) room)
      (served_changed bs (record_added bs (start_of bs n s) (stable_of bs n s) (unforced_of bs n s) x) n s l (added_only bs (start_of bs n s) (size_of bs n) fits x room) (accepted_added bs (start_of bs n s) (size_of bs n) fits x room) h))
      (λ full. rw (lt-ltb s n l, le-ltb counts (room_of bs n) full) h)
      (cases_lt counts (room_of bs n)))
      (λ past. rw (le-ltb s n past) h)
      (cases_lt s n)

  pub kept_served : (m : ℕ) → m ≤ counts → served_in (bytes_kept m bs n s) n ≡ n
  kept_served m few =
      ⊎_elim
      (λ l. ⊎_elim
      (λ room.
      let fits = within_bytes bs n s l in
      let wide : counts_bytes ≤ size_of bs n = omega arith in
      let less : m ≤ room_of bs n = omega arith in
      rw (lt-ltb s n l, lt-ltb 0 (room_of bs n) room)
      (served_changed bs (first_kept bs (start_of bs n s) m) n s l (kept_only bs (start_of bs n s) (size_of bs n) fits m less wide) (accepted_kept bs (start_of bs n s) (size_of bs n) fits m few wide) h))
      (λ none. rw (lt-ltb s n l, le-ltb 0 (room_of bs n) none) h)
      (cases_lt 0 (room_of bs n)))
      (λ past. rw (le-ltb s n past) h)
      (cases_lt s n)

some_is : (o : Option Record) → is_some o ≡ true → Some (unwrap_or o fallback) ≡ o
some_is (Some x) h = refl
some_is None h = absurd (cc)

-- An accepted section holds exactly what it counts.
exact_in : (bs : List ℕ) (start size : ℕ) → AcceptedAt bs start size → Exact bs start (section_in bs start size)
exact_in bs start size s =
    let r = s.room in
    let n = stable_count bs start size in
    let k = unforced_count bs start size in
    let f = record_in bs start in
    record {
      stable_exact = length-map-range_with_len f 0 n ∙ (omega arith);
      unforced_exact = length-map-range_with_len f n k ∙ (omega arith);
      records_exact = λ i l.
          let within : i < n + k = omega (arith, held_in bs start size) in
          ap (λ xs. slice_get xs i) (sym (all_records bs start size))
          ∙ (slice_get-get_or (records_in bs start 0 (n + k)) i fallback (omega (arith, length-map-range_with_len f 0 (n + k)))
          ∙ (ap Some (get_or-map-range_with_len f 0 (n + k) i i fallback within (omega arith))
          ∙ some_is (record_from bs (record_start start i)) (s.each i (omega arith))));
    }

-- Each section of a journal that serves all its stations is accepted.
pub section_accepted : (bs : List ℕ) (n s : ℕ) → served_in bs n ≡ n → s < n → counts_bytes ≤ size_of bs n → AcceptedAt bs (start_of bs n s) (size_of bs n)
section_accepted bs n s h l wide =
    let p = served_parts bs n (omega arith) h in
    accepted_parts bs (start_of bs n s) (size_of bs n) wide (within_bytes bs n s l) (each_accepted bs (size_of bs n) 0 n s p.1 (omega arith) (omega arith))

-- So it counts no more records than it has room for.
pub room_there : (bs : List ℕ) (n s size start : ℕ) → served_in bs n ≡ n → s < n → size ≡ size_of bs n → start ≡ s * size → counts_bytes ≤ size → counted bs start ≤ capacity_of size
room_there bs n s size start h l z e wide =
    let wide_there : counts_bytes ≤ size_of bs n = omega arith in
    rw (e, z) (section_accepted bs n s h l wide_there).room

pub sound_from : (bs : List ℕ) (n : ℕ) → served_in bs n ≡ n → Sound bs n
sound_from bs n h = record {
  again = h;
  same = ap (sections bs) h;
  exact = λ s l wide. subst (Exact bs (start_of bs n s)) (sym (section_there bs n s l)) (exact_in bs (start_of bs n s) (size_of bs n) (section_accepted bs n s h l wide));
}

-- A journal made again serves as many.
pub served_again : (bs : List ℕ) (n : ℕ) → served_in bs (served_in bs n) ≡ served_in bs n
served_again bs n = ⊎_elim (λ e. ap (served_in bs) e) (λ e. ap (served_in bs) e ∙ sym e) (served_cases bs n)
