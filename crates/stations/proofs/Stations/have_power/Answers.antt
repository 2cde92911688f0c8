use Rattle.std.proofs.Common.{rules}
use borrow.Author.Tests.{tests}
use Rattle.std.proofs.lemmas.Iterator.Consumers.{YieldsList-from_rest}
use Rattle.std.proofs.lemmas.Iterator.Search.{all_from_yields_List}
use Rattle.station.specs.Sets.{members}
use Rattle.stations.specs.Stations.{power_at, all_power}
use Rattle.stations.proofs.Stations.have_power.Goals as goal

pub returns : goal.returns
unfolding all_power
returns c = all_from_yields_List (power_at c.args.self.now) _ _ _ c.all.ensures.ran (YieldsList-from_rest (members c.args.set) c.into_iter.ensures.into_iter_gives.0) (λ x b q k. (search rules, search (rules, tests)))
