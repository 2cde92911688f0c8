-- A search through the records of a list, place by place.
use Rattle.std.proofs.Common.{◌≡◌, ℕ, zero, suc, ◌+◌, ◌<◌, Bool, true, false, cond, List, [], ◌∷◌, length, Some, None, Option, IsTrue, IsSomeAnd, MatchOption, IfSome, option_map, sym, refl, ap, subst, ◌∙◌, arith}
use Rattle.std.specs.List.{slice_get}
use Rattle.std.specs.Iterator.Runs.{Run, AllItemsGive, IsFirstToGive, CallKeepsClosure, ItemsCountUp}
use Rattle.std.proofs.iter.Yields.{nat_range_steps}
use Rattle.std.proofs.iter.runs.Sources.{range_runs}
use denote.Param.Members.{Mut, Called}
use Rattle.journal.specs.declared.records.Kind.{Kind}
use Rattle.journal.specs.declared.records.Record.{Record}
use Rattle.station.specs.Recovery.{is_of, matching, first_record}

passes_on : (b : Bool) (x : Record) (rest : Option Record) → cond b (Some x) None ≡ None → rest ≡ cond b (Some x) rest
passes_on true x rest e = cc
passes_on false x rest e = refl

stops : (b : Bool) (x y : Record) (rest : Option Record) → cond b (Some x) None ≡ Some y → Some y ≡ cond b (Some x) rest
stops true x y rest e = sym e
stops false x y rest e = cc

module _ (k : Kind) (r : ℕ) where
  first_none : (xs : List Record) → ((j : ℕ) → j < length xs → matching k r (slice_get xs j) ≡ None) → None ≡ first_record k r xs
  unfolding first_record
  first_none [] h = refl
  first_none (x ∷ xs) h = first_none xs (λ j l. h (suc j) (omega arith)) ∙ passes_on (is_of k r x) x (first_record k r xs) (h 0 (omega arith))

  first_at : (xs : List Record) (i : ℕ) (y : Record) → i < length xs → matching k r (slice_get xs i) ≡ Some y → ((j : ℕ) → j < i → matching k r (slice_get xs j) ≡ None) → Some y ≡ first_record k r xs
  unfolding first_record
  first_at [] i y l e n = absurd (omega arith)
  first_at (x ∷ xs) zero y l e n = stops (is_of k r x) x y (first_record k r xs) e
  first_at (x ∷ xs) (suc i) y l e n = first_at xs i y (omega arith) e (λ j m. n (suc j) (omega arith)) ∙ passes_on (is_of k r x) x (first_record k r xs) (n 0 (omega arith))

  -- a run of reads over the places of a list, by a closure that keeps what is wanted
  module _ (xs : List Record) (n : ℕ) (long : n ≡ length xs) {F : Type 0} (g : Mut F (ℕ × Unit {0}) (Option Record)) (f : F)
      (calls : (i : ℕ) (o : Option Record) (q : F) → Called g f (i, tt) o q → (q ≡ f) × (o ≡ matching k r (slice_get xs i)))
      (p : Run nat_range_steps) (start : p.from ≡ record { start = 0; end = n }) where
    keeps : CallKeepsClosure g f
    keeps a o q c = (calls a.0 o q c).0

    up : ItemsCountUp p 0 n
    up = subst (λ (s : _). ItemsCountUp p s.start s.end) start (range_runs p p.seen)

    item : (j : ℕ) → j < p.len → p.at j ≡ Some j
    item j l = go (p.at j) (up.3 j l)
      where
        go : (o : Option ℕ) → option_map (λ y. y) o ≡ Some (0 + j) → o ≡ Some j
        go None e = absurd cc
        go (Some y) e = let i : y ≡ 0 + j = cc in ap Some (omega arith)

    pub first_by_run : (y : Option Record) → MatchOption y (IsTrue p.whole × AllItemsGive p g f None) (λ x. (i : ℕ) × (i < p.len) × (p.len ≡ i + 1) × IsFirstToGive p g f (Some x) None i) → y ≡ first_record k r xs
    first_by_run None h =
        first_none xs (λ j l. sym (calls j None f (subst (λ o. IfSome o (λ x. Called g f (x, tt) None f)) (item j (omega (arith, up.1 h.0))) (h.1 keeps j))).1)
    first_by_run (Some x) (i, l, e, first) =
        first_at xs i x (omega (arith, up.0)) (sym (calls i (Some x) f (subst (λ o. IsSomeAnd o (λ y. Called g f (y, tt) (Some x) f)) (item i l) (first keeps).0)).1)
        (λ j m. sym (calls j None f (subst (λ o. IsSomeAnd o (λ y. Called g f (y, tt) None f)) (item j (omega arith)) ((first keeps).1 j m))).1)
