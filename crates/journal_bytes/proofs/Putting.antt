-- Counts and records put into bytes: what stands there then, and what is left as it was.
use Rattle.std.proofs.Common.{◌≡◌, ℕ, ◌+◌, ◌/◌, ◌%◌, ◌<◌, ◌≤◌, ◌≢◌, ◌⊎◌, List, length, get_or, set, Some, refl, ◌∙◌, inl, inr, arith}
use Rattle.journal_bytes.specs.Changes.{put_count, put_record, record_added, first_kept}
use Rattle.journal_bytes.specs.Layout.{counts_bytes, count_from, record_start}
use Rattle.journal.specs.Bytes.{record_from}
use Rattle.journal.specs.Limits.{record_bytes}
use Rattle.journal.specs.Records.{letter_of, kind_of}
use Rattle.journal.specs.declared.records.Kind.{Kind}
use Rattle.journal.specs.declared.records.Kind.TheVariants.{Opening, Commit, Abort, End, Prepared, Committed, Aborted}
use Rattle.journal.specs.declared.records.Record.{Record}
use Rattle.std.proofs.lemmas.Nat.{div-add-mod'}
use Rattle.std.proofs.lemmas.List.{get_or-set_same, get_or-set_other, length-set}

-- The bytes bs and cs are the same from lo on, up to hi.
abbrev pub Same : List ℕ → List ℕ → ℕ → ℕ → Type 0
Same bs cs lo hi = (k : ℕ) → lo ≤ k → k < hi → get_or cs k 0 ≡ get_or bs k 0

module _ (bs cs : List ℕ) (lo hi : ℕ) (same : Same bs cs lo hi) (p : ℕ) (from_lo : lo ≤ p) where
  -- So are a count and a record that lie there.
  pub count_same : p + 2 ≤ hi → count_from cs p ≡ count_from bs p
  count_same h =
      let a = same p (omega arith) (omega arith) in
      let b = same (p + 1) (omega arith) (omega arith) in
      cc

  pub record_same : p + record_bytes ≤ hi → record_from cs p ≡ record_from bs p
  record_same h =
      let a = same p (omega arith) (omega arith) in
      let b = same (p + 1) (omega arith) (omega arith) in
      let d = same (p + 2) (omega arith) (omega arith) in
      let e = same (p + 3) (omega arith) (omega arith) in
      simp (a, b, d, e)

module _ (bs : List ℕ) (p v : ℕ) where
  count_other : (q : ℕ) → q ≢ p → q ≢ p + 1 → get_or (put_count bs p v) q 0 ≡ get_or bs q 0
  count_other q a b = rw (get_or-set_other, get_or-set_other)

  count_there : p + 1 < length bs → count_from (put_count bs p v) p ≡ v
  count_there h =
      let one = set bs p (v / 256) in
      let ne : p ≢ p + 1 = omega arith in
      let a = get_or-set_other one (p + 1) p (v % 256) 0 ne in
      let b = get_or-set_same bs p (v / 256) 0 (omega arith) in
      let d = get_or-set_same one (p + 1) (v % 256) 0 (omega (arith, length-set bs p (v / 256))) in
      let e = div-add-mod' v 256 in
      cc

  count_long : length (put_count bs p v) ≡ length bs
  count_long = simp length-set

kind_of_letter : (k : Kind) → kind_of (letter_of k) ≡ Some k
kind_of_letter Opening = refl
kind_of_letter Commit = refl
kind_of_letter Abort = refl
kind_of_letter End = refl
kind_of_letter Prepared = refl
kind_of_letter Committed = refl
kind_of_letter Aborted = refl

module _ (bs : List ℕ) (p : ℕ) (x : Record) where
  record_other : (q : ℕ) → (q < p) ⊎ (p + record_bytes ≤ q) → get_or (put_record bs p x) q 0 ≡ get_or bs q 0
  record_other q far =
      let a : q ≢ p = omega arith in
      let b : q ≢ p + 1 = omega arith in
      let d : q ≢ p + 2 = omega arith in
      let e : q ≢ p + 3 = omega arith in
      rw (get_or-set_other, get_or-set_other, get_or-set_other, get_or-set_other)

  record_there : p + record_bytes ≤ length bs → record_from (put_record bs p x) p ≡ Some x
  record_there h =
      let kind = kind_of_letter x.kind in
      let revision = div-add-mod' x.revision 256 in
      grind (arith, get_or-set_same, get_or-set_other, length-set)

  record_long : length (put_record bs p x) ≡ length bs
  record_long = simp length-set

-- Only the bytes of the section of `size` bytes at `start` differ.
pub record Only (bs cs : List ℕ) (start size : ℕ) : Type 0 where
  pub long : length cs ≡ length bs
  pub others : (k : ℕ) → (k < start) ⊎ (start + size ≤ k) → get_or cs k 0 ≡ get_or bs k 0

-- A section whose first n records are kept as stable, and no others: nothing but the counts differs.
module _ (bs : List ℕ) (start n : ℕ) (room : start + counts_bytes ≤ length bs) where
  abbrev kept : List ℕ
  kept = first_kept bs start n

  abbrev halfway : List ℕ
  halfway = put_count bs start n

  pub stable_other : (k : ℕ) → (k < start) ⊎ (start + counts_bytes ≤ k) → get_or kept k 0 ≡ get_or bs k 0
  stable_other k far = count_other halfway (start + 2) 0 k (omega arith) (omega arith) ∙ count_other bs start n k (omega arith) (omega arith)

  pub stable_long : length kept ≡ length bs
  stable_long = count_long halfway (start + 2) 0 ∙ count_long bs start n

  pub stable_first : count_from kept start ≡ n
  stable_first =
      count_same halfway kept start (start + 2) (λ k l h. count_other halfway (start + 2) 0 k (omega arith) (omega arith)) start (omega arith) (omega arith)
      ∙ count_there bs start n (omega arith)

  pub stable_second : count_from kept (start + 2) ≡ 0
  stable_second = count_there halfway (start + 2) 0 (omega (arith, count_long bs start n))

  pub stable_records : (i : ℕ) → record_from kept (record_start start i) ≡ record_from bs (record_start start i)
  stable_records i =
      record_same bs kept (start + counts_bytes) (record_start start i + record_bytes) (λ k l h. stable_other k (inr l)) (record_start start i) (omega arith) (omega arith)

-- A record added to a section that counts n stable and k unforced ones: nothing but its place and the unforced count
-- differs.
module _ (bs : List ℕ) (start n k : ℕ) (x : Record) (room : record_start start (n + k) + record_bytes ≤ length bs) where
  abbrev added : List ℕ
  added = record_added bs start n k x

  abbrev put : List ℕ
  put = put_record bs (record_start start (n + k)) x

  added_other : (q : ℕ) → q ≢ start + 2 → q ≢ start + 3 → (q < record_start start (n + k)) ⊎ (record_start start (n + k) + record_bytes ≤ q) → get_or added q 0 ≡ get_or bs q 0
  added_other q a b far = count_other put (start + 2) (k + 1) q a (omega arith) ∙ record_other bs (record_start start (n + k)) x q far

  pub added_outside : (q : ℕ) → (q < start) ⊎ (record_start start (n + k) + record_bytes ≤ q) → get_or added q 0 ≡ get_or bs q 0
  added_outside q far =
      added_other q (omega arith) (omega arith)
      (elim far [
        | inl l ↦ inl (omega arith)
        | inr h ↦ inr h
      ])

  pub added_long : length added ≡ length bs
  added_long = count_long put (start + 2) (k + 1) ∙ record_long bs (record_start start (n + k)) x

  pub added_first : count_from added start ≡ count_from bs start
  added_first =
      count_same bs added start (start + 2) (λ q l h. added_other q (omega arith) (omega arith) (inl (omega arith))) start (omega arith) (omega arith)

  pub added_second : count_from added (start + 2) ≡ k + 1
  added_second = count_there put (start + 2) (k + 1) (omega (arith, record_long bs (record_start start (n + k)) x))

  pub added_there : record_from added (record_start start (n + k)) ≡ Some x
  added_there =
      record_same put added (start + counts_bytes) (record_start start (n + k) + record_bytes) (λ q l h. count_other put (start + 2) (k + 1) q (omega arith) (omega arith)) (record_start start (n + k)) (omega arith) (omega arith)
      ∙ record_there bs (record_start start (n + k)) x room

  pub added_before : (i : ℕ) → i < n + k → record_from added (record_start start i) ≡ record_from bs (record_start start i)
  added_before i l =
      record_same bs added (start + counts_bytes) (record_start start (n + k)) (λ q a b. added_other q (omega arith) (omega arith) (inl b)) (record_start start i) (omega arith) (omega arith)
