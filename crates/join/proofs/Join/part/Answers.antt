use Rattle.std.proofs.Common.{rules}
use Rattle.join.proofs.Join.part.Goals as goal
use Rattle.join.proofs.Joining.{lies}

pub returns : goal.returns
returns g c = search (rules, lies)
