use Rattle.run.proofs.Settles.{Going}
use Rattle.run.specs.Runs.{shown}
use Rattle.run.specs.Settling.{finished}
use Rattle.run.proofs.run.Run.finish_all.Given as goal

abbrev pub invariant-loop-revision : goal.invariant-loop-revision
invariant-loop-revision g l =
    Going g.P.Presumption.answers finished 1024 l.revisions l.revision (shown g.J.Journal.meaning l.initial.self) (shown g.J.Journal.meaning l.self) l.initial.deliveries l.deliveries
