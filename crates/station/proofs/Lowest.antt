-- The lowest station of a set is in it, and the first of its members.
use Rattle.std.proofs.Common.{◌≡◌, ℕ, zero, suc, ◌+◌, ◌/◌, ◌%◌, ◌^◌, ◌<◌, ◌≤◌, ◌≢◌, Bool, true, false, [], ◌∷◌, inl, inr, refl, w8, arith}
use Rattle.std.specs.Int.Bits.{bit_xor}
use Rattle.std.specs.Int.Count.{count_trailing_zeros}
use Rattle.std.specs.List.{range_with_len, filter}
use Rattle.std.proofs.lemmas.Bool.{cases_eq, lt-ltb}
use Rattle.std.proofs.lemmas.Bool.Decides.{nat_tests}
use Rattle.std.proofs.lemmas.Nat.Bits.{bit_at-trailing_zeros, bit_at_xor, bit_at-pow_same, bit_at-pow_other, bit_at-lt}
use Rattle.station.specs.declared.sets.StationSet.{StationSet}
use Rattle.station.specs.Sets.{of_bits, empty, holds, without_station, members}

-- two tests that differ at s alone
module _ (p q : ℕ → Bool) (s : ℕ) (other : (t : ℕ) → t ≢ s → q t ≡ p t) where
  past : (n a : ℕ) → s < a → filter q (range_with_len a n) ≡ filter p (range_with_len a n)
  past zero a h = refl
  past (suc n) a h = simp (other a (omega arith), past n (a + 1) (omega arith))

  front : p s ≡ true → q s ≡ false → ((t : ℕ) → t < s → p t ≡ false) → (n a : ℕ) → a ≤ s → s < a + n → filter p (range_with_len a n) ≡ s ∷ filter q (range_with_len a n)
  front i o low zero a h l = absurd (omega arith)
  front i o low (suc n) a h l =
      elim (cases_eq a s) [
        | inl e ↦ rw e (simp (i, o, past n (s + 1) (omega arith)))
        | inr d ↦ simp (other a d, low a (omega arith), front i o low n (a + 1) (omega arith) (omega arith))
      ]

module _ (x : StationSet) (within : x.bits < 256) (some : empty x ≡ false) where
  abbrev s : ℕ
  s = count_trailing_zeros 8 x.bits

  facts : (s < 8) × (x.bits / 2 ^ s % 2 ≡ 1) × ((t : ℕ) → t < s → x.bits / 2 ^ t % 2 ≡ 0)
  facts = bit_at-trailing_zeros w8 x.bits (grind (arith, nat_tests)) within

  pub lowest_in : holds x s ≡ true
  lowest_in = grind (arith, nat_tests, facts)

  gone : without_station x s ≡ of_bits (bit_xor x.bits (2 ^ s))
  gone = simp (lowest_in, lt-ltb s 8 facts.0)

  left : holds (without_station x s) s ≡ false
  left = rw gone (rw (bit_at_xor x.bits (2 ^ s) s, facts.1, bit_at-pow_same s) refl)

  other : (t : ℕ) → t ≢ s → holds (without_station x s) t ≡ holds x t
  other t d = rw gone (rw (bit_at_xor x.bits (2 ^ s) t, bit_at-pow_other s t d) (grind (arith, bit_at-lt x.bits t)))

  pub members_lowest : members x ≡ s ∷ members (without_station x s)
  unfolding members
  members_lowest = front (holds x) (holds (without_station x s)) s other lowest_in left (λ t l. grind (arith, nat_tests, facts.2 t l)) 8 0 (omega arith) facts.0

pub members_empty : (x : StationSet) → empty x ≡ true → members x ≡ []
unfolding members
members_empty x e = let z : x.bits ≡ 0 = grind (arith, nat_tests) in simp z
