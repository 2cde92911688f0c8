use Rattle.run.proofs.Settles.{Draining}
use Rattle.run.specs.Runs.{seen, shown}
use Rattle.run.specs.Settling.{load}
use Rattle.run.proofs.run.Run.drain.Given as goal

abbrev pub invariant-loop-self : goal.invariant-loop-self
invariant-loop-self g l = Draining g.P.Presumption.answers (shown g.J.Journal.meaning l.initial.self) (shown g.J.Journal.meaning l.self) l.deliveries

abbrev pub decreases-loop-self : goal.decreases-loop-self
decreases-loop-self g l = load 8 (seen g.J.Journal.meaning l.self).store.post
