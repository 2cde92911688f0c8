-- Every section of a journal, by the numbers of the stations.
use Rattle.std.proofs.Common.{◌≡◌, ℕ, zero, suc, ◌+◌, ◌<◌, ◌&&◌, List, length, drop, sym, ap, ◌∙◌, arith, add-one, drop-cons}
use Rattle.std.proofs.lemmas.List.{drop_all}
use Rattle.std.specs.List.{list_all, range_with_len}
use Rattle.journal.specs.Meaning.{Section, section, no_section}
use Rattle.run.specs.State.{ready, all_ready}

module _ (m : List Section) where
  all_ready_from : (s n : ℕ) → s + n ≡ length m → list_all (λ i. ready (section m i)) (range_with_len s n) ≡ all_ready (drop s m)
  unfolding all_ready
  all_ready_from s zero e = sym (ap all_ready (drop_all s m (omega arith)))
  all_ready_from s (suc n) e =
      let h : s < length m = omega arith in
      ap (λ b. ready (section m s) && b) (all_ready_from (s + 1) n (omega arith)) ∙ rw add-one (sym (ap all_ready (drop-cons m s no_section h)))

  pub all_ready_is : list_all (λ i. ready (section m i)) (range_with_len 0 (length m)) ≡ all_ready m
  all_ready_is = all_ready_from 0 (length m) (omega arith)
