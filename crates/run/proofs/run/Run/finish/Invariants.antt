use Rattle.run.proofs.Settles.{Going, asking}
use Rattle.run.specs.Runs.{shown}
use Rattle.run.proofs.run.Run.finish.Given as goal

abbrev pub invariant-loop-station : goal.invariant-loop-station
invariant-loop-station g l =
    Going g.P.Presumption.answers (λ π. asking π l.revision) 3 l.stations l.station (shown g.J.Journal.meaning l.initial.self) (shown g.J.Journal.meaning l.self) l.initial.deliveries l.deliveries
