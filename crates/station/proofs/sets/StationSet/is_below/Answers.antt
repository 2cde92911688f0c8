use Rattle.std.proofs.Common.{◌≡◌, leb, true, ◌∙◌, arith}
use Rattle.std.proofs.lemmas.Bool.Decides.{nat_tests}
use Rattle.station.proofs.Bits.{all_below}
use Rattle.station.proofs.sets.StationSet.is_below.Goals as goal

pub returns-then-stations-from : goal.returns-then-stations-from
returns-then-stations-from c =
    let t : leb c.from.result c.args.stations ≡ true = grind (arith, nat_tests) in
    t ∙ all_below c.args.self c.args.stations (omega arith) (omega arith)
