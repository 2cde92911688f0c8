-- What the bytes after a call mean.
use Rattle.std.proofs.Common.{◌≡◌, ℕ, ◌+◌, ◌<◌, ◌≤◌, min, List, [], ◌++◌, length, take, unwrap_or, sym, refl, ap, ◌∙◌, inl, inr, ⊎_elim, arith}
use Rattle.journal_bytes.proofs.Counting.{counted_same, counted_joined, counted_take}
use Rattle.journal_bytes.proofs.Putting.{Only, stable_other, stable_long, stable_first, stable_second, stable_records, added_outside, added_long, added_first, added_second, added_there, added_before}
use Rattle.journal_bytes.proofs.Sections.{within_bytes, length_sections, section_there, sections_changed}
use Rattle.journal_bytes.specs.Changes.{record_added, first_kept, bytes_written, bytes_kept, bytes_forced, bytes_cut}
use Rattle.journal_bytes.specs.Layout.{counts_bytes, capacity_of, stable_count, unforced_count, record_start, fallback, record_in, records_in, section_in, size_of, start_of, stable_of, unforced_of, room_of, sections}
use Rattle.journal.proofs.Laws.{changed_nothing, changed_same, written_is}
use Rattle.journal.specs.Limits.{record_bytes}
use Rattle.journal.specs.Meaning.{Section, section_of, held, changed, put, put_in, written, force_all, forced, keep_first, cut_to}
use Rattle.journal.specs.declared.records.Record.{Record}
use Rattle.std.proofs.lemmas.List.FromFn.{length-map-range_with_len, map-range_with_len_more}
use Rattle.std.proofs.lemmas.Bool.{cases_lt, lt-ltb, le-ltb, cond-true, cond-false}

-- A section's two lists, one behind the other.
module _ (bs : List ℕ) (start size : ℕ) where
  abbrev stables : ℕ
  stables = stable_count bs start size

  abbrev unforceds : ℕ
  unforceds = unforced_count bs start size

  pub held_in : held (section_in bs start size) ≡ stables + unforceds
  held_in = simp length-map-range_with_len

  pub all_records : records_in bs start 0 (stables + unforceds) ≡ records_in bs start 0 stables ++ records_in bs start stables unforceds
  all_records = let z : 0 + stables ≡ stables = omega arith in simp z at (counted_joined (record_in bs start) 0 stables unforceds)

  first_records : (k : ℕ) → records_in bs start 0 (stables + min k unforceds) ≡ records_in bs start 0 stables ++ take k (records_in bs start stables unforceds)
  first_records k =
      let z : 0 + stables ≡ stables = omega arith in
      let joined = counted_joined (record_in bs start) 0 stables (min k unforceds) in
      let taken = counted_take (record_in bs start) stables unforceds k in
      cc

  -- Where there is no room there is no record.
  none_in : (m : ℕ) → m ≤ stables + unforceds → capacity_of size ≤ 0 → section_of (capacity_of size) (records_in bs start 0 m) [] ≡ section_in bs start size
  none_in m few none =
      let a : m ≡ 0 = omega arith in
      let b : stables ≡ 0 = omega arith in
      let d : unforceds ≡ 0 = omega arith in
      let e : records_in bs start stables unforceds ≡ [] = ap (records_in bs start stables) d in
      cc

module _ (bs : List ℕ) (start size : ℕ) (fits : start + size ≤ length bs) where
  abbrev stable : ℕ
  stable = stable_count bs start size

  abbrev unforced : ℕ
  unforced = unforced_count bs start size

  -- A record added is put at the end of the unforced list.
  module _ (x : Record) (room : stable + unforced < capacity_of size) where
    abbrev after : List ℕ
    after = record_added bs start stable unforced x

    pub added_only : Only bs after start size
    added_only = record {
      long = added_long bs start stable unforced x (omega arith);
      others = λ k far. added_outside bs start stable unforced x (omega arith) k (elim far [
        | inl l ↦ inl l
        | inr h ↦ inr (omega arith)
      ]);
    }

    pub section_added : section_in after start size ≡ put x (section_in bs start size)
    section_added =
        let fit : record_start start (stable + unforced) + record_bytes ≤ length bs = omega arith in
        let first : stable_count after start size ≡ stable = ap (λ v. min v (capacity_of size)) (added_first bs start stable unforced x fit) in
        let second : unforced_count after start size ≡ unforced + 1 = omega (arith, first, added_second bs start stable unforced x fit) in
        let before : (i : ℕ) → i < stable + unforced → record_in after start i ≡ record_in bs start i = λ i l. ap (λ o. unwrap_or o fallback) (added_before bs start stable unforced x fit i l) in
        let there : record_in after start (stable + unforced) ≡ x = ap (λ o. unwrap_or o fallback) (added_there bs start stable unforced x fit) in
        let a = counted_same (record_in after start) (record_in bs start) 0 stable (λ i l u. before i (omega arith)) in
        let b = counted_same (record_in after start) (record_in bs start) stable unforced (λ i l u. before i (omega arith)) in
        let d = map-range_with_len_more (record_in after start) stable unforced (stable + unforced) refl in
        cc

  -- Counts that make the first m records stable and leave no unforced ones.
  module _ (m : ℕ) (few : m ≤ capacity_of size) (wide : counts_bytes ≤ size) where
    abbrev kept : List ℕ
    kept = first_kept bs start m

    pub kept_only : Only bs kept start size
    kept_only = record {
      long = stable_long bs start m (omega arith);
      others = λ k far. stable_other bs start m (omega arith) k (elim far [
        | inl l ↦ inl l
        | inr h ↦ inr (omega arith)
      ]);
    }

    pub section_kept : section_in kept start size ≡ section_of (capacity_of size) (records_in bs start 0 m) []
    section_kept =
        let first : stable_count kept start size ≡ m = omega (arith, stable_first bs start m (omega arith)) in
        let second : unforced_count kept start size ≡ 0 = omega (arith, stable_second bs start m (omega arith)) in
        let a = counted_same (record_in kept start) (record_in bs start) 0 m (λ i l u. ap (λ o. unwrap_or o fallback) (stable_records bs start m (omega arith) i)) in
        cc

-- Write, force and cut: what the bytes afterwards mean is what the call makes of what they meant.
module _ (bs : List ℕ) (n s : ℕ) where
  abbrev counts : ℕ
  counts = stable_of bs n s + unforced_of bs n s

  -- A call at a station that is served changes its section, one elsewhere nothing.
  kept_means : (g : Section → Section) (m : ℕ) → m ≤ counts → (s < n → section_of (room_of bs n) (records_in bs (start_of bs n s) 0 m) [] ≡ g (section_in bs (start_of bs n s) (size_of bs n))) → sections (bytes_kept m bs n s) n ≡ changed g (sections bs n) s
  kept_means g m few is =
      ⊎_elim
      (λ l. ⊎_elim
      (λ room.
      let wide : counts_bytes ≤ size_of bs n = omega arith in
      let fits = within_bytes bs n s l in
      let less : m ≤ room_of bs n = omega arith in
      rw (lt-ltb s n l, lt-ltb 0 (room_of bs n) room)
      (sections_changed g bs (first_kept bs (start_of bs n s) m) n s l (kept_only bs (start_of bs n s) (size_of bs n) fits m less wide) (section_kept bs (start_of bs n s) (size_of bs n) fits m less wide ∙ is l)))
      (λ none.
      rw (lt-ltb s n l, le-ltb 0 (room_of bs n) none)
      (sym (changed_same g (sections bs n) s ((ap g (section_there bs n s l) ∙ sym (is l)) ∙ (none_in bs (start_of bs n s) (size_of bs n) m few none ∙ sym (section_there bs n s l))))))
      (cases_lt 0 (room_of bs n)))
      (λ past. rw (le-ltb s n past) (sym (changed_nothing g (sections bs n) s (omega (arith, length_sections bs n)))))
      (cases_lt s n)

  pub forced_means : sections (bytes_forced bs n s) n ≡ forced (sections bs n) s
  forced_means = kept_means force_all counts (omega arith) (λ l. ap (λ xs. section_of (room_of bs n) xs []) (all_records bs (start_of bs n s) (size_of bs n)))

  pub cut_means : (k : ℕ) → sections (bytes_cut k bs n s) n ≡ cut_to k (sections bs n) s
  cut_means k = kept_means (keep_first k) (stable_of bs n s + min k (unforced_of bs n s)) (omega arith) (λ l. ap (λ xs. section_of (room_of bs n) xs []) (first_records bs (start_of bs n s) (size_of bs n) k))

  pub written_means : (x : Record) → sections (bytes_written x bs n s) n ≡ written x (sections bs n) s
  written_means x =
      let here : sections (bytes_written x bs n s) n ≡ changed (put_in x) (sections bs n) s = ⊎_elim
      (λ l. ⊎_elim
      (λ room.
      let fits = within_bytes bs n s l in
      let roomy = lt-ltb (held (section_in bs (start_of bs n s) (size_of bs n))) (room_of bs n) (omega (arith, held_in bs (start_of bs n s) (size_of bs n))) in
      rw (lt-ltb s n l, lt-ltb counts (room_of bs n) room)
      (sections_changed (put_in x) bs _ n s l (added_only bs (start_of bs n s) (size_of bs n) fits x room) (section_added bs (start_of bs n s) (size_of bs n) fits x room ∙ sym (cond-true _ _ _ roomy))))
      (λ full.
      let no_room = le-ltb (held (section_in bs (start_of bs n s) (size_of bs n))) (room_of bs n) (omega (arith, held_in bs (start_of bs n s) (size_of bs n))) in
      rw (lt-ltb s n l, le-ltb counts (room_of bs n) full)
      (sym (changed_same (put_in x) (sections bs n) s ((ap (put_in x) (section_there bs n s l) ∙ cond-false _ _ _ no_room) ∙ sym (section_there bs n s l)))))
      (cases_lt counts (room_of bs n)))
      (λ past. rw (le-ltb s n past) (sym (changed_nothing (put_in x) (sections bs n) s (omega (arith, length_sections bs n)))))
      (cases_lt s n) in
      here ∙ written_is x (sections bs n) s
