-- The sections that bytes hold: where they lie, and what a change inside one of them leaves of the others.
use Rattle.std.proofs.Common.{◌≡◌, ℕ, ◌+◌, ◌*◌, ◌/◌, ◌<◌, ◌≤◌, min, ◌≢◌, List, map, length, set, unwrap_or, sym, ap, ◌∙◌, inl, inr, mul-le-mul_right, add-mul, arith}
use native.Mathlib.Nat.{mul-div-le}
use Rattle.journal_bytes.proofs.Counting.{counted_same, counted_set}
use Rattle.journal_bytes.proofs.Putting.{Same, count_same, record_same, Only}
use Rattle.journal_bytes.specs.Layout.{most_bytes, capacity_of, stable_count, unforced_count, record_start, fallback, record_in, section_in, size_of, start_of, stable_of, unforced_of, room_of, sections}
use Rattle.journal.specs.Meaning.{Section, section, no_section, changed}
use Rattle.std.proofs.lemmas.List.FromFn.{length-map-range_with_len, get_or-map-range_with_len}
use Rattle.std.proofs.lemmas.List.{get_or_past}
use Rattle.std.proofs.lemmas.Bool.{cases_lt}
use Rattle.std.specs.List.{range_with_len}

-- A section is what its own bytes say.
section_same : (bs cs : List ℕ) (start size : ℕ) → Same bs cs start (start + size) → section_in cs start size ≡ section_in bs start size
section_same bs cs start size same =
    let first : stable_count cs start size ≡ stable_count bs start size = elim (cases_lt size 4) [
      | inl l ↦ omega arith
      | inr h ↦ let t = count_same bs cs start (start + size) same start (omega arith) (omega arith) in cc
    ] in
    let second : unforced_count cs start size ≡ unforced_count bs start size = elim (cases_lt size 4) [
      | inl l ↦ omega arith
      | inr h ↦ let t = count_same bs cs start (start + size) same (start + 2) (omega arith) (omega arith) in cc
    ] in
    let one : (i : ℕ) → i < capacity_of size → record_in cs start i ≡ record_in bs start i = λ i l. ap (λ o. unwrap_or o fallback) (record_same bs cs start (start + size) same (record_start start i) (omega arith) (omega arith)) in
    let a = counted_same (record_in cs start) (record_in bs start) 0 (stable_count bs start size) (λ i l u. one i (omega arith)) in
    let b = counted_same (record_in cs start) (record_in bs start) (stable_count bs start size) (unforced_count bs start size) (λ i l u. one i (omega arith)) in
    cc

-- The sections lie one behind the other, within the bytes.
pub within_bytes : (bs : List ℕ) (n s : ℕ) → s < n → start_of bs n s + size_of bs n ≤ length bs
within_bytes bs n s l =
    let a : (s + 1) * size_of bs n ≤ n * size_of bs n = mul-le-mul_right (size_of bs n) (omega arith) in
    let b : n * size_of bs n ≤ min (length bs) most_bytes = mul-div-le (min (length bs) most_bytes) n in
    omega (arith, a, b, add-mul s 1 (size_of bs n))

behind : (size s t : ℕ) → s < t → s * size + size ≤ t * size
behind size s t l =
    let a : (s + 1) * size ≤ t * size = mul-le-mul_right size (omega arith) in
    omega (arith, a, add-mul s 1 size)

-- What differs in the section s alone is the same in each other section t.
pub same_elsewhere : (bs cs : List ℕ) (size s t : ℕ) → Only bs cs (s * size) size → t ≢ s → Same bs cs (t * size) (t * size + size)
same_elsewhere bs cs size s t only ne k l h =
    only.others k (elim (cases_lt t s) [
      | inl u ↦ inl (omega (arith, behind size t s u))
      | inr u ↦ inr (omega (arith, behind size s t (omega arith)))
    ])

module _ (bs : List ℕ) (n : ℕ) where
  pub length_sections : length (sections bs n) ≡ n
  length_sections = length-map-range_with_len _ 0 n

  -- The section of a station that is served.
  pub section_there : (s : ℕ) → s < n → section (sections bs n) s ≡ section_in bs (start_of bs n s) (size_of bs n)
  section_there s l = get_or-map-range_with_len (λ t. section_in bs (start_of bs n t) (size_of bs n)) 0 n s s no_section l (omega arith)

  -- And of one that is not.
  pub section_gone : (s : ℕ) → n ≤ s → no_section ≡ section (sections bs n) s
  section_gone s l = sym (get_or_past (sections bs n) s no_section (omega (arith, length_sections)))

  pub capacity_there : (s : ℕ) → s < n → (section (sections bs n) s).capacity ≡ room_of bs n
  capacity_there s l = ap (λ p. p.capacity) (section_there s l)

  pub stable_there : (s : ℕ) → s < n → length (section (sections bs n) s).stable ≡ stable_of bs n s
  stable_there s l = ap (λ p. length p.stable) (section_there s l) ∙ length-map-range_with_len _ 0 _

  pub unforced_there : (s : ℕ) → s < n → length (section (sections bs n) s).unforced ≡ unforced_of bs n s
  unforced_there s l = ap (λ p. length p.unforced) (section_there s l) ∙ length-map-range_with_len _ _ _

-- A change inside the section s is a change of that section alone.
pub sections_changed : (g : Section → Section) (bs cs : List ℕ) (n s : ℕ) → s < n → Only bs cs (start_of bs n s) (size_of bs n) → section_in cs (start_of bs n s) (size_of bs n) ≡ g (section_in bs (start_of bs n s) (size_of bs n)) → sections cs n ≡ changed g (sections bs n) s
sections_changed g bs cs n s l only here =
    let size = size_of bs n in
    let same_size : size_of cs n ≡ size = ap (λ k. min k most_bytes / n) only.long in
    let F : ℕ → ℕ → Section = λ z t. section_in cs (t * z) z in
    ap (λ z. map (F z) (range_with_len 0 n)) same_size
    ∙ (counted_set (λ t. section_in bs (t * size) size) (F size) n s (g (section_in bs (s * size) size)) l here (λ t b ne. section_same bs cs (t * size) size (same_elsewhere bs cs size s t only ne))
    ∙ ap (λ p. set (sections bs n) s (g p)) (sym (section_there bs n s l)))
