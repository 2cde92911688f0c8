-- Lists made from a function of the place.
use Rattle.std.proofs.Common.{◌≡◌, ℕ, zero, suc, ◌+◌, ◌<◌, ◌≤◌, min, ◌≢◌, ◌∷◌, ◌++◌, map, take, set, refl, ap, inl, inr, add-zero, zero-add, arith}
use Rattle.std.proofs.lemmas.List.FromFn.{length-map-range_with_len, get_or-map-range_with_len, take-map-range_with_len}
use Rattle.std.proofs.lemmas.List.{get_or-set_same, get_or-set_other, length-set, same_lists, take_min}
use Rattle.std.proofs.lemmas.Bool.{cases_eq}
use Rattle.std.specs.List.{range_with_len}

module _ {X : Type 0} (f g : ℕ → X) where
  -- Functions that agree make the same list.
  pub counted_same : (a n : ℕ) → ((i : ℕ) → a ≤ i → i < a + n → f i ≡ g i) → map f (range_with_len a n) ≡ map g (range_with_len a n)
  counted_same a zero h = refl
  counted_same a (suc n) h =
      let here = h a (omega arith) (omega arith) in
      let rest = counted_same (a + 1) n (λ i l u. h i (omega arith) (omega arith)) in
      cc

  -- Functions that agree but at one place make lists that agree but at that place.
  pub counted_set : (n s : ℕ) (x : X) → s < n → g s ≡ x → ((i : ℕ) → i < n → i ≢ s → g i ≡ f i) → map g (range_with_len 0 n) ≡ set (map f (range_with_len 0 n)) s x
  counted_set n s x l here rest =
      same_lists _ _ (simp (length-set, length-map-range_with_len))
      (λ k d h.
      let b : k < n = omega (arith, length-map-range_with_len g 0 n) in
      let at_g = get_or-map-range_with_len g 0 n k k d b (omega arith) in
      let at_f = get_or-map-range_with_len f 0 n k k d b (omega arith) in
      elim (cases_eq k s) [
        | inl e ↦ let q = get_or-set_same (map f (range_with_len 0 n)) s x d (omega (arith, length-map-range_with_len f 0 n)) in cc
        | inr ne ↦ let q = get_or-set_other (map f (range_with_len 0 n)) s k x d ne in let r = rest k b ne in cc
      ])

module _ {X : Type 0} (f : ℕ → X) where
  -- Two lists that follow one another.
  pub counted_joined : (a n m : ℕ) → map f (range_with_len a (n + m)) ≡ map f (range_with_len a n) ++ map f (range_with_len (a + n) m)
  counted_joined a zero m = simp (zero-add, add-zero)
  counted_joined a (suc n) m =
      let rest = counted_joined (a + 1) n m in
      let e : a + 1 + n ≡ a + suc n = omega arith in
      let g : suc n + m ≡ suc (n + m) = omega arith in
      rw (g, ← e) (ap (λ t. f a ∷ t) rest)

  -- The first of them, or all if there are fewer.
  pub counted_take : (a n k : ℕ) → take k (map f (range_with_len a n)) ≡ map f (range_with_len a (min k n))
  counted_take a n k = rw (← take_min, length-map-range_with_len) (take-map-range_with_len f a n (min k n) (omega arith))
