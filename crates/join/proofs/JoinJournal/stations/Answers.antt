use Rattle.std.proofs.Common.{rules}
use Rattle.join.proofs.JoinJournal.stations.Goals as goal
use Rattle.join.proofs.Joining.{length_together}

pub returns : goal.returns
returns g c = search (rules, length_together)
