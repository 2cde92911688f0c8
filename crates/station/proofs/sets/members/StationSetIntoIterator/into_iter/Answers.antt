use Rattle.std.proofs.Common.{ℕ, length, refl, ap}
use Rattle.std.proofs.iter.runs.Sources.{as_is, from_front}
use Rattle.std.specs.Map.Iter.{TakesFirst, GivesInOrder}
use Rattle.station.proofs.sets.members.StationSetIntoIterator.into_iter.Goals as goal

in_order : GivesInOrder ℕ
in_order p s = as_is p p.from (from_front (TakesFirst (λ (x : ℕ). x)) (λ x. x) (λ t. t) (λ t u h. ap length h.0) (λ t x u h. h) p s)

pub returns : goal.returns
returns c = record { into_iter_gives = (refl, in_order) }
