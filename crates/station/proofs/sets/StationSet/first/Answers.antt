use Rattle.std.proofs.Common.{sym, arith}
use Rattle.station.proofs.Lowest.{lowest_in, members_lowest, members_empty}
use Rattle.station.proofs.sets.StationSet.first.Goals as goal

pub returns-then-is_empty-clause-leads : goal.returns-then-is_empty-clause-leads
returns-then-is_empty-clause-leads c = members_empty c.args.self (sym c.if-is_empty.ensures)

pub returns-else-is_empty-clause-one : goal.returns-else-is_empty-clause-one
returns-else-is_empty-clause-one c = lowest_in c.args.self (omega arith) (sym c.if-is_empty.ensures)

pub returns-else-is_empty-clause-leads : goal.returns-else-is_empty-clause-leads
returns-else-is_empty-clause-leads c = members_lowest c.args.self (omega arith) (sym c.if-is_empty.ensures)
