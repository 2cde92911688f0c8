-- Sections that are accepted: the steps of the loops that look them over, and what acceptance says.
use Rattle.std.proofs.Common.{◌≡◌, ℕ, zero, suc, ◌+◌, ◌*◌, ◌<◌, ◌≤◌, true, false, ◌&&◌, ltb, leb, List, length, drop, is_some, sym, refl, ap, ◌∙◌, inl, inr, arith}
use Rattle.journal_bytes.proofs.Putting.{Same, Only, count_same, record_same}
use Rattle.journal_bytes.proofs.Sections.{within_bytes, same_elsewhere}
use Rattle.journal_bytes.specs.Layout.{counts_bytes, capacity_of, record_start, size_of, start_of}
use Rattle.journal_bytes.specs.Opening.{all_decode, counted, accepted, all_accepted}
use Rattle.journal.specs.Bytes.{record_from, decoded}
use Rattle.journal.specs.Limits.{record_bytes}
use Rattle.std.proofs.lemmas.List.{drop-drop, length-drop, get_or-drop}
use Rattle.std.proofs.lemmas.Bool.{cases_lt, cases_eq, and_parts, and_from, leb-true}
use Rattle.std.proofs.lemmas.Bool.Decides.{nat_tests}

-- A section that is long enough for counts, and counts no more than it has room for, is accepted for its records.
pub accepted_is : (bs : List ℕ) (start size k : ℕ) → counts_bytes ≤ size → k ≡ counted bs start → k ≤ capacity_of size → all_decode (drop (start + counts_bytes) bs) k ≡ accepted bs start size
accepted_is bs start size k wide e h =
    let long : ltb size counts_bytes ≡ false = grind (arith, nat_tests) in
    let room : leb (counted bs start) (capacity_of size) ≡ true = grind (arith, nat_tests) in
    simp (long, room, e)

-- A record is decoded where the bytes from its place on are decoded.
pub decoded_drop : (bs : List ℕ) (p : ℕ) → p + record_bytes ≤ length bs → decoded (drop p bs) ≡ record_from bs p
decoded_drop bs p h =
    let long = length-drop p bs in
    let enough : ltb (length (drop p bs)) record_bytes ≡ false = grind (arith, nat_tests) in
    let z : p + 0 ≡ p = omega arith in
    simp (enough, get_or-drop, z)

next_drop : (bs : List ℕ) (i : ℕ) → drop (record_bytes * i) (drop record_bytes bs) ≡ drop (record_bytes * suc i) bs
next_drop bs i = let e : record_bytes + record_bytes * i ≡ record_bytes * suc i = omega arith in drop-drop (record_bytes * i) record_bytes bs ∙ ap (λ z. drop z bs) e

-- The bytes begin with k records if and only if each of the k is one.
each_decodes : (bs : List ℕ) (k i : ℕ) → all_decode bs k ≡ true → i < k → is_some (decoded (drop (record_bytes * i) bs)) ≡ true
each_decodes bs zero i h l = absurd (omega arith)
each_decodes bs (suc k) zero h l = (and_parts (is_some (decoded bs)) (all_decode (drop record_bytes bs) k) h).0
each_decodes bs (suc k) (suc i) h l =
    ap (λ xs. is_some (decoded xs)) (sym (next_drop bs i))
    ∙ each_decodes (drop record_bytes bs) k i (and_parts (is_some (decoded bs)) (all_decode (drop record_bytes bs) k) h).1 (omega arith)

all_decodes : (bs : List ℕ) (k : ℕ) → ((i : ℕ) → i < k → is_some (decoded (drop (record_bytes * i) bs)) ≡ true) → all_decode bs k ≡ true
all_decodes bs zero h = refl
all_decodes bs (suc k) h =
    and_from (is_some (decoded bs)) (all_decode (drop record_bytes bs) k) (h 0 (omega arith))
    (all_decodes (drop record_bytes bs) k (λ i l. ap (λ xs. is_some (decoded xs)) (next_drop bs i) ∙ h (suc i) (omega arith)))

-- The record i of a section, as the loop over its records meets it.
met : (bs : List ℕ) (start i : ℕ) → record_start start i + record_bytes ≤ length bs → decoded (drop (record_bytes * i) (drop (start + counts_bytes) bs)) ≡ record_from bs (record_start start i)
met bs start i h = ap decoded (drop-drop (record_bytes * i) (start + counts_bytes) bs) ∙ decoded_drop bs (record_start start i) h

-- What acceptance says of a section that is long enough for counts.
pub record AcceptedAt (bs : List ℕ) (start size : ℕ) : Type 0 where
  pub room : counted bs start ≤ capacity_of size
  pub each : (i : ℕ) → i < counted bs start → is_some (record_from bs (record_start start i)) ≡ true

module _ (bs : List ℕ) (start size : ℕ) (wide : counts_bytes ≤ size) (fits : start + size ≤ length bs) where
  pub accepted_parts : accepted bs start size ≡ true → AcceptedAt bs start size
  accepted_parts h =
      let long : ltb size counts_bytes ≡ false = grind (arith, nat_tests) in
      let both : (leb (counted bs start) (capacity_of size) && all_decode (drop (start + counts_bytes) bs) (counted bs start)) ≡ true = simp long at h in
      let p = and_parts _ _ both in
      let r : counted bs start ≤ capacity_of size = leb-true _ _ p.0 in
      record { room = r; each = λ i l. ap is_some (sym (met bs start i (omega arith))) ∙ each_decodes (drop (start + counts_bytes) bs) _ i p.1 l }

  pub accepted_from : AcceptedAt bs start size → accepted bs start size ≡ true
  accepted_from h =
      let r = h.room in
      sym (accepted_is bs start size (counted bs start) wide refl r)
      ∙ all_decodes (drop (start + counts_bytes) bs) (counted bs start) (λ i l. ap is_some (met bs start i (omega arith)) ∙ h.each i l)

accepted_short : (bs : List ℕ) (start size : ℕ) → size < counts_bytes → accepted bs start size ≡ true
accepted_short bs start size l = let short : ltb size counts_bytes ≡ true = grind (arith, nat_tests) in simp short

-- A section is accepted for its own bytes alone.
accepted_same : (bs cs : List ℕ) (start size : ℕ) → Same bs cs start (start + size) → length cs ≡ length bs → start + size ≤ length bs → accepted bs start size ≡ true → accepted cs start size ≡ true
accepted_same bs cs start size same long fits h =
    elim (cases_lt size counts_bytes) [
      | inl l ↦ accepted_short cs start size l
      | inr wide ↦
          let s = accepted_parts bs start size wide fits h in
          let r = s.room in
          let a = count_same bs cs start (start + size) same start (omega arith) (omega arith) in
          let b = count_same bs cs start (start + size) same (start + 2) (omega arith) (omega arith) in
          accepted_from cs start size wide (omega arith) (record {
            room = omega arith;
            each = λ i l. ap is_some (record_same bs cs start (start + size) same (record_start start i) (omega arith) (omega arith)) ∙ s.each i (omega arith);
          })
    ]

-- All sections are accepted if and only if each is.
pub each_accepted : (bs : List ℕ) (size s k t : ℕ) → all_accepted bs size s k ≡ true → s ≤ t → t < s + k → accepted bs (t * size) size ≡ true
each_accepted bs size s zero t h g l = absurd (omega arith)
each_accepted bs size s (suc k) t h g l =
    let p = and_parts (accepted bs (s * size) size) (all_accepted bs size (s + 1) k) h in
    elim (cases_eq t s) [
      | inl e ↦ ap (λ z. accepted bs (z * size) size) e ∙ p.0
      | inr ne ↦ each_accepted bs size (s + 1) k t p.1 (omega arith) (omega arith)
    ]

all_accept : (bs : List ℕ) (size s k : ℕ) → ((t : ℕ) → s ≤ t → t < s + k → accepted bs (t * size) size ≡ true) → all_accepted bs size s k ≡ true
all_accept bs size s zero h = refl
all_accept bs size s (suc k) h =
    and_from (accepted bs (s * size) size) (all_accepted bs size (s + 1) k) (h s (omega arith) (omega arith))
    (all_accept bs size (s + 1) k (λ t g l. h t (omega arith) (omega arith)))

-- Where one section changes and is still accepted, all are.
pub accepted_changed : (bs cs : List ℕ) (n s : ℕ) → s < n → Only bs cs (start_of bs n s) (size_of bs n) → (accepted bs (start_of bs n s) (size_of bs n) ≡ true → accepted cs (start_of bs n s) (size_of bs n) ≡ true) → all_accepted bs (size_of bs n) 0 n ≡ true → all_accepted cs (size_of bs n) 0 n ≡ true
accepted_changed bs cs n s l only here h =
    let size = size_of bs n in
    all_accept cs size 0 n (λ t g u.
    let was = each_accepted bs size 0 n t h g u in
    elim (cases_eq t s) [
      | inl e ↦ ap (λ z. accepted cs (z * size) size) e ∙ here (ap (λ z. accepted bs (z * size) size) (sym e) ∙ was)
      | inr ne ↦ accepted_same bs cs (t * size) size (same_elsewhere bs cs size s t only ne) only.long (within_bytes bs n t (omega arith)) was
    ])
