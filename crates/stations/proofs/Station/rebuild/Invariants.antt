use Rattle.std.proofs.Common.{◌≡◌, ℕ, ◌<◌, length, get_or}
use Rattle.station.specs.Limits.{most_revisions}
use Rattle.station.specs.Recovery.{stable_records}
use Rattle.stations.specs.Stations.{no_entries, resumed}
use Rattle.stations.proofs.Station.rebuild.Given as goal

abbrev pub invariant-loop-revision : goal.invariant-loop-revision
invariant-loop-revision g l =
    (length l.entries ≡ most_revisions)
    × ((k : ℕ) → k < l.revision → get_or l.entries k no_entries ≡ resumed (g.P.Presumption.answers l.presumption) (stable_records (g.J.Journal.meaning l.journal) l.station) k)
