-- What `&` and `!` of bits make of a set.
use Rattle.std.proofs.Common.{◌≡◌, ℕ, zero, suc, ◌-◌, ◌/◌, ◌%◌, ◌^◌, ◌<◌, ◌≤◌, ◌==◌, Bool, true, false, cond, not, bit_and, bit_xor, inl, inr, sym, refl, ap, ◌∙◌, arith, pow_mono}
use Rattle.std.specs.Int.Bits.{and_self, and_zero_r, xor_add_and, xor_zero_r}
use Rattle.std.proofs.lemmas.Bool.{true≢false, cases_lt, lt-ltb, le-ltb}
use Rattle.std.proofs.lemmas.Bool.Decides.{nat_tests}
use Rattle.std.proofs.lemmas.Nat.{and_assoc, and_comm, and-not, pow_pos}
use Rattle.std.proofs.lemmas.Nat.Bits.{and_pow}
use native.Mathlib.Nat.{div-eq_of_lt}
use lib.Pow.{pow-lt}
use Rattle.station.specs.declared.sets.StationSet.{StationSet}
use Rattle.station.specs.Sets.{of_bits, holds, below, single, without_station}

-- the bits of x that y has not
pub clear : (x y : ℕ) → x < 256 → y < 256 → bit_and x (255 - y) ≡ bit_xor x (bit_and x y)
clear x y h k =
    let a : bit_and x (bit_and x y) ≡ bit_and x y = sym (and_assoc y x x) ∙ ap (λ n. bit_and n y) (and_self x) in
    omega (arith, and-not 8 y x k h, and_comm x (255 - y), and_comm x y, xor_add_and x (bit_and x y), a)

module _ (x : StationSet) (s : ℕ) (within : x.bits < 256) where
  inside : s < 8 → (d : ℕ) → x.bits / 2 ^ s % 2 ≡ d → bit_and x.bits (2 ^ s) ≡ cond (d == 1) (2 ^ s) 0
  inside l zero e = rw (and_pow x.bits s, e) (omega arith)
  inside l (suc zero) e = rw (and_pow x.bits s, e) (omega arith)
  inside l (suc (suc d)) e = absurd (omega arith)

  outside : 8 ≤ s → holds x s ≡ false
  outside l = let z : x.bits / 2 ^ s ≡ 0 = div-eq_of_lt (omega (arith, pow_mono {i = 8} {j = s} l)) in ap (λ n. n % 2 == 1) z

  common : bit_and x.bits (single s) ≡ cond (holds x s) (single s) 0
  common =
      elim (cases_lt s 8) [
        | inl l ↦ simp (lt-ltb s 8 l) (inside l (x.bits / 2 ^ s % 2) refl)
        | inr l ↦ simp (le-ltb s 8 l, and_zero_r, outside l)
      ]

  single_small : single s < 256
  single_small = elim (cases_lt s 8) [ inl l ↦ simp (lt-ltb s 8 l) (pow-lt l) | inr l ↦ simp (le-ltb s 8 l) (omega arith) ]

  pub removed : of_bits (bit_and x.bits (255 - single s)) ≡ without_station x s
  removed = ap of_bits (clear x.bits (single s) within single_small ∙ ap (bit_xor x.bits) common) ∙ by (holds x s)
    where
      by : (b : Bool) → of_bits (bit_xor x.bits (cond b (single s) 0)) ≡ cond b (of_bits (bit_xor x.bits (single s))) x
      by true = refl
      by false = ap of_bits (xor_zero_r x.bits)

  pub contained : not (bit_and x.bits (single s) == 0) ≡ holds x s
  contained = ap (λ n. not (n == 0)) common ∙ by (holds x s) refl
    where
      by : (b : Bool) → holds x s ≡ b → not (cond b (single s) 0 == 0) ≡ b
      by true t = elim (cases_lt s 8) [ inl l ↦ simp (lt-ltb s 8 l) (grind (arith, nat_tests, pow_pos s)) | inr l ↦ absurd (true≢false (sym t ∙ outside l)) ]
      by false t = refl

  -- no bit is left from 8 on
  pub all_below : 8 ≤ s → true ≡ below x s
  all_below l = let z : x.bits / 2 ^ s ≡ 0 = div-eq_of_lt (omega (arith, pow_mono {i = 8} {j = s} l)) in ap (λ n. n == 0) (sym z)
