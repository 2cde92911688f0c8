use Rattle.std.proofs.Common.{◌≡◌}
use Rattle.station.specs.Sets.{members}
use Rattle.stations.specs.Stations.{activated}
use Rattle.stations.proofs.Stations.activate.Given as goal

abbrev pub invariant-loop-station : goal.invariant-loop-station
invariant-loop-station l = activated l.revision l.coordinator l.station-iterator l.self ≡ activated l.revision l.coordinator (members l.fn.set) l.initial.self
