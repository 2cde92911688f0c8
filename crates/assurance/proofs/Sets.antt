-- Sets of stations as numbers: membership, one station more or less, a set known by its members.
use Rattle.std.proofs.Common.{◌≡◌, ℕ, zero, suc, ◌+◌, ◌-◌, ◌/◌, ◌%◌, ◌^◌, ◌<◌, ◌≤◌, true, false, eqb, ◌⊎◌, sym, refl, ap, ◌∙◌, subst, inl, inr, one-mul, arith, pow-add, shr-shr}
use native.Mathlib.Nat.{div-eq_of_lt, zero-div}
use Rattle.std.proofs.lemmas.Bool.Decides.{nat_tests}
use lib.Bits.{bit_or, bit_xor, or_shr, or_mod, or_zero_r, xor_shr, xor_mod, xor_zero_r, shifted_even}
use lib.Pow.{pow-lt, shl-shr}
use Rattle.std.proofs.lemmas.Bool.{cases_order, cases_eq, eqb-true, cond_both, true≢false, cases_Bool, cases_lt}
use Rattle.assurance.proofs.Ideal.{in_set, with_station, without_station}

pow_bit : (t u : ℕ) → (t ≡ u → ⊥) → 2 ^ t / 2 ^ u % 2 ≡ 0
pow_bit t u n =
    elim (cases_order t u) [
      | inl e ↦ absurd (n e)
      | inr d ↦ elim d [
        | inl lt ↦ ap (λ (x : ℕ). x % 2) (div-eq_of_lt (pow-lt lt))
        | inr gt ↦ (let e : ℕ = t - u - 1 in let w : t ≡ suc e + u = omega arith in ap (λ (x : ℕ). 2 ^ x / 2 ^ u % 2) w ∙ ap (λ (x : ℕ). x / 2 ^ u % 2) (pow-add 2 (suc e) u) ∙ ap (λ (x : ℕ). x % 2) (shl-shr (2 ^ suc e) u) ∙ ap (λ (x : ℕ). x % 2) (sym (one-mul (2 ^ suc e))) ∙ shifted_even 1 e)
      ]
    ]

or_bit : (m t u : ℕ) → (t ≡ u → ⊥) → bit_or m (2 ^ t) / 2 ^ u % 2 ≡ m / 2 ^ u % 2
or_bit m t u n = ap (λ (x : ℕ). x % 2) (or_shr m (2 ^ t) u) ∙ (or_mod (m / 2 ^ u) (2 ^ t / 2 ^ u) 1 ∙ (ap (λ (x : ℕ). bit_or (m / 2 ^ u % 2) x) (pow_bit t u n) ∙ or_zero_r (m / 2 ^ u % 2)))

xor_bit : (m t u : ℕ) → (t ≡ u → ⊥) → bit_xor m (2 ^ t) / 2 ^ u % 2 ≡ m / 2 ^ u % 2
xor_bit m t u n = ap (λ (x : ℕ). x % 2) (xor_shr m (2 ^ t) u) ∙ (xor_mod (m / 2 ^ u) (2 ^ t / 2 ^ u) 1 ∙ (ap (λ (x : ℕ). bit_xor (m / 2 ^ u % 2) x) (pow_bit t u n) ∙ xor_zero_r (m / 2 ^ u % 2)))

pub mem_add : (m t u : ℕ) → in_set (with_station m t) u ≡ true → (in_set m u ≡ true) ⊎ (t ≡ u)
unfolding in_set with_station
mem_add m t u h = elim (cases_eq t u) [ inl e ↦ inr e | inr n ↦ inl (ap (λ (x : ℕ). eqb x 1) (sym (or_bit m t u n)) ∙ h) ]

pub mem_del : (m t u : ℕ) → in_set m u ≡ true → (in_set (without_station m t) u ≡ true) ⊎ (t ≡ u)
unfolding in_set without_station
mem_del m t u h = elim (cases_eq t u) [ inl e ↦ inr e | inr n ↦ inl (cond_both (in_set m t) (bit_xor m (2 ^ t)) m (λ x. in_set x u ≡ true) (λ _. ap (λ (x : ℕ). eqb x 1) (xor_bit m t u n) ∙ h) (λ _. h)) ]

pub mem_zero : (u : ℕ) → in_set 0 u ≡ false
unfolding in_set
mem_zero u = ap (λ (x : ℕ). eqb (x % 2) 1) (zero-div (2 ^ u))

or_one : (b : ℕ) → b < 2 → bit_or b 1 ≡ 1
or_one zero h = refl
or_one (suc zero) h = refl
or_one (suc (suc b)) h = absurd (omega arith)

own_bit : (t : ℕ) → 2 ^ t / 2 ^ t ≡ 1
own_bit t = ap (λ (x : ℕ). x / 2 ^ t) (sym (one-mul (2 ^ t))) ∙ shl-shr 1 t

pub add_self : (m t : ℕ) → in_set (with_station m t) t ≡ true
unfolding in_set with_station
add_self m t = ap (λ (x : ℕ). eqb x 1) (ap (λ (x : ℕ). x % 2) (or_shr m (2 ^ t) t) ∙ (or_mod (m / 2 ^ t) (2 ^ t / 2 ^ t) 1 ∙ (ap (λ (x : ℕ). bit_or (m / 2 ^ t % 2) (x % 2)) (own_bit t) ∙ or_one (m / 2 ^ t % 2) (omega arith))))

pub add_keeps : (m t u : ℕ) → in_set m u ≡ true → in_set (with_station m t) u ≡ true
unfolding in_set with_station
add_keeps m t u h = elim (cases_eq t u) [ inl e ↦ subst (λ (x : ℕ). in_set (with_station m t) x ≡ true) e (add_self m t) | inr n ↦ keeps n ]
  where
    keeps : (t ≡ u → ⊥) → in_set (with_station m t) u ≡ true
    keeps n = ap (λ (x : ℕ). eqb x 1) (or_bit m t u n) ∙ h

del_self' : (m t : ℕ) → in_set m t ≡ true → in_set (bit_xor m (2 ^ t)) t ≡ false
unfolding in_set
del_self' m t h = ap (λ (x : ℕ). eqb x 1) (ap (λ (x : ℕ). x % 2) (xor_shr m (2 ^ t) t) ∙ (xor_mod (m / 2 ^ t) (2 ^ t / 2 ^ t) 1 ∙ (ap (λ (x : ℕ). bit_xor (m / 2 ^ t % 2) (x % 2)) (own_bit t) ∙ ap (λ (x : ℕ). bit_xor x 1) (eqb-true _ _ h))))

pub del_self : (m t : ℕ) → in_set (without_station m t) t ≡ false
unfolding without_station
del_self m t = cond_both (in_set m t) (bit_xor m (2 ^ t)) m (λ x. in_set x t ≡ false) (λ e. del_self' m t e) (λ e. e)

pub del_back : (m t u : ℕ) → in_set (without_station m t) u ≡ true → in_set m u ≡ true
unfolding in_set without_station
del_back m t u h = elim (cases_eq t u) [ inl e ↦ absurd (true≢false (sym h ∙ subst (λ (x : ℕ). in_set (without_station m t) x ≡ false) e (del_self m t))) | inr n ↦ back n h ]
  where
    back : (t ≡ u → ⊥) → in_set (without_station m t) u ≡ true → in_set m u ≡ true
    back n = cond_both (in_set m t) (bit_xor m (2 ^ t)) m (λ x. in_set x u ≡ true → in_set m u ≡ true) (λ _ k. sym (ap (λ (x : ℕ). eqb x 1) (xor_bit m t u n)) ∙ k) (λ _ k. k)

-- a set is known by its members
half : (m u : ℕ) → in_set (m / 2) u ≡ in_set m (suc u)
unfolding in_set
half m u = ap (λ (x : ℕ). eqb (x % 2) 1) (shr-shr m 1 u ∙ ap (λ (x : ℕ). m / 2 ^ x) (omega arith))

low : (m k : ℕ) → in_set m 0 ≡ in_set k 0 → m % 2 ≡ k % 2
unfolding in_set
low m k h = grind (arith, nat_tests)

pub mem_ext : (m k : ℕ) → ((u : ℕ) → in_set m u ≡ in_set k u) → m ≡ k
mem_ext m k h = go (m + k) m k (omega arith) h
  where
    go : (f m k : ℕ) → m + k ≤ f → ((u : ℕ) → in_set m u ≡ in_set k u) → m ≡ k
    go zero m k l h = omega arith
    go (suc f) m k l h = omega (arith, low m k (h 0), go f (m / 2) (k / 2) (omega arith) (λ u. half m u ∙ (h (suc u) ∙ sym (half k u))))

pub mem_none : (m : ℕ) → ((u : ℕ) → in_set m u ≡ true → ⊥) → m ≡ 0
mem_none m h = mem_ext m 0 (λ u. elim (cases_Bool (in_set m u)) [ inl e ↦ absurd (h u e) | inr e ↦ e ∙ sym (mem_zero u) ])

pub mem_below : (n m u : ℕ) → m < 2 ^ n → in_set m u ≡ true → u < n
unfolding in_set
mem_below n m u l h = elim (cases_lt u n) [ inl e ↦ e | inr e ↦ absurd (true≢false (sym h ∙ ap (λ (x : ℕ). eqb (x % 2) 1) (div-eq_of_lt (small e)))) ]
  where
    small : n ≤ u → m < 2 ^ u
    small e = elim (cases_eq n u) [ inl q ↦ subst (λ (x : ℕ). m < 2 ^ x) q l | inr q ↦ (let p : 2 ^ n < 2 ^ u = pow-lt (omega arith) in omega arith) ]
