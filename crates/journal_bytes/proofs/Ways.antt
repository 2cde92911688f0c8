-- The ways through the calls: what each finds, answers and leaves of the bytes.
use Rattle.std.proofs.Common.{refl, Ok, Err, Result, cond, nat_lt, min, ◌≡◌, ℕ, ◌+◌, ◌*◌, ◌<◌, ◌≤◌, List, Some, unwrap_or, sym, ap, ◌∙◌, subst, arith}
use Rattle.journal_bytes.proofs.Changing.{written_means, forced_means, cut_means}
use Rattle.journal_bytes.proofs.Keeping.{written_served, kept_served, section_accepted, sound_from}
use Rattle.journal_bytes.proofs.Sections.{within_bytes, length_sections, section_there, capacity_there, stable_there, unforced_there}
use Rattle.journal_bytes.specs.Changes.{record_added, first_kept, bytes_written, bytes_kept, bytes_forced, bytes_cut}
use Rattle.journal_bytes.specs.Found.{CountsOf, FoundAt, Found}
use Rattle.journal_bytes.specs.Journals.{journal_bytes, Rewritten}
use Rattle.journal_bytes.specs.Opening.{served_in}
use Rattle.journal_bytes.specs.declared.byte_journal.ByteJournal.{ByteJournal}
use Rattle.journal_bytes.specs.Layout.{counts_bytes, fallback, record_start, record_in, records_in, start_of, size_of, stable_of, unforced_of, room_of, sections}
use Rattle.journal_bytes.specs.declared.layout.Counts.{Counts}
use Rattle.journal.specs.Bytes.{record_from}
use Rattle.journal.specs.Meaning.{written, forced, cut_to, record_at}
use Rattle.journal.specs.declared.records.Record.{Record}
use Rattle.journal.specs.declared.refusals.Refusal.{Refusal}
use Rattle.std.proofs.lemmas.List.FromFn.{length-map-range_with_len, get_or-map-range_with_len}
use Rattle.std.proofs.lemmas.Option.{slice_get-get_or}
use Rattle.std.proofs.lemmas.Bool.{lt-ltb, le-ltb}
use Rattle.std.specs.List.{slice_get}
use Rattle.std.specs.Option.{IsSome}
use Rattle.std.specs.Result.{result_ok}

module _ (bs : List ℕ) (n s : ℕ) where
  -- The counts of a station's section are those of its section in the journal.
  pub found : (c : Counts) (start size : ℕ) → s < n → size ≡ size_of bs n → start ≡ s * size → CountsOf bs start size c → FoundAt bs n s c
  found c start size l z e here =
      let k : CountsOf bs (start_of bs n s) (size_of bs n) c = subst (λ v. CountsOf bs v (size_of bs n) c) (e ∙ ap (λ v. s * v) z) (subst (λ v. CountsOf bs start v c) z here) in
      record {
        served = l;
        listed = omega (arith, length_sections bs n);
        within = within_bytes bs n s l;
        counts = k;
        capacity_there = k.capacity_is ∙ sym (capacity_there bs n s l);
        stable_there = k.stable_is ∙ sym (stable_there bs n s l);
        unforced_there = k.unforced_is ∙ sym (unforced_there bs n s l);
      }

  -- What is found where counts come out.
  pub found_ok : (r : Result Counts Refusal) (c : Counts) → Found bs n s r → result_ok r ≡ Some c → FoundAt bs n s c
  found_ok (Ok d) c f e = let same : d ≡ c = cc in subst (FoundAt bs n s) same f
  found_ok (Err x) c f e = absurd (cc)

  -- At a station that is not served.
  module _ (past : n ≤ s) where
    pub written_past : (x : Record) → bs ≡ bytes_written x bs n s
    written_past x = rw (le-ltb s n past)

    pub kept_past : (m : ℕ) → bs ≡ bytes_kept m bs n s
    kept_past m = rw (le-ltb s n past)

  -- At a station whose counts were found.
  module _ (c : Counts) (f : FoundAt bs n s c) where
    -- A write that finds no room.
    pub written_full : (x : Record) → c.stable + c.unforced ≡ c.capacity → bs ≡ bytes_written x bs n s
    written_full x full = rw (lt-ltb s n f.served, le-ltb (stable_of bs n s + unforced_of bs n s) (room_of bs n) (omega (arith, f.counts)))

    module _ (cs : List ℕ) where
      -- A write that finds room.
      module _ (x : Record) (room : c.stable + c.unforced < c.capacity) (is : cs ≡ record_added bs c.start c.stable c.unforced x) where
        pub written_room : cs ≡ bytes_written x bs n s
        written_room =
            let k = f.counts in
            rw (lt-ltb s n f.served, lt-ltb (stable_of bs n s + unforced_of bs n s) (room_of bs n) (omega arith)) (cc)

        pub written_again : served_in bs n ≡ n → served_in cs n ≡ n
        written_again h = rw written_room (written_served bs n s h x)

        pub written_after : sections cs n ≡ written x (sections bs n) s
        written_after = rw written_room (written_means bs n s x)

      -- A force, and a cut of which k unforced records are kept.
      module _ (m : ℕ) (is : cs ≡ cond (nat_lt 0 c.capacity) (first_kept bs c.start m) bs) where
        kept_room : cs ≡ bytes_kept m bs n s
        kept_room = let k = f.counts in rw (lt-ltb s n f.served) (cc)

        -- Whichever records are kept, the bytes stay a journal's.
        pub kept_again : m ≤ c.stable + c.unforced → served_in bs n ≡ n → served_in cs n ≡ n
        kept_again few h = let k = f.counts in rw kept_room (kept_served bs n s h m (omega arith))

        module _ (all : m ≡ c.stable + c.unforced) where
          pub forced_bytes : cs ≡ bytes_forced bs n s
          forced_bytes = let k = f.counts in cc (kept_room)

          pub forced_after : sections cs n ≡ forced (sections bs n) s
          forced_after = rw forced_bytes (forced_means bs n s)

        module _ (k : ℕ) (few : m ≡ c.stable + min k c.unforced) where
          pub cut_bytes : cs ≡ bytes_cut k bs n s
          cut_bytes = let d = f.counts in cc (kept_room)

          pub cut_after : sections cs n ≡ cut_to k (sections bs n) s
          cut_after = rw cut_bytes (cut_means bs n s k)

    -- Reading one of the stable records, which the bytes at its place are.
    module _ (i : ℕ) (l : i < c.stable) where
      pub is_record : served_in bs n ≡ n → IsSome (record_from bs (record_start c.start i))
      is_record h =
          let k = f.counts in
          let wide : counts_bytes ≤ size_of bs n = omega arith in
          let a = section_accepted bs n s h f.served wide in
          rw k.start_is (a.each i (omega arith))

      pub read_some : (x : Record) → record_from bs (record_start c.start i) ≡ Some x → Some x ≡ record_at (sections bs n) s i
      read_some x e =
          let k = f.counts in
          let start = start_of bs n s in
          let count = stable_of bs n s in
          let within : i < count = omega arith in
          let there : record_in bs start i ≡ x = rw k.start_is at (ap (λ o. unwrap_or o fallback) e) in
          sym (ap (λ p. slice_get p.stable i) (section_there bs n s f.served)
          ∙ (slice_get-get_or (records_in bs start 0 count) i fallback (omega (arith, length-map-range_with_len (record_in bs start) 0 count))
          ∙ ap Some (get_or-map-range_with_len (record_in bs start) 0 count i i fallback within (omega arith) ∙ there)))

-- A journal whose bytes a call leaves as they are.
pub unchanged : (j : ByteJournal) (bs : List ℕ) → journal_bytes j ≡ bs → Rewritten j j bs
unchanged j bs e = record { stations = refl; bytes = e; sound = sound_from j.bytes.now j.stations j.again }
