use Rattle.std.proofs.Common.{rules}
use Rattle.station.specs.Recovery.{stable_records}
use Rattle.station.proofs.Finds.{first_by_run}
use Rattle.station.proofs.recovery.find.Goals as goal

pub returns : goal.returns
returns g c =
    first_by_run c.args.kind c.args.revision (stable_records (g.J.Journal.meaning c.args.journal.now) c.args.station) _ c.stable_len.ensures _ _ (λ i o q h. search rules) c.find_map.ensures.runs.0 c.find_map.ensures.runs.1 _ c.find_map.ensures.runs.2
