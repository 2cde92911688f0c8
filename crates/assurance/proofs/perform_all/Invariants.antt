use Rattle.std.proofs.Common.{take, vec_items}
use Rattle.run.specs.Runs.{shown}
use Rattle.assurance.specs.Played.{AllPerformed}
use Rattle.assurance.proofs.perform_all.Given as goal

abbrev pub invariant-loop-call : goal.invariant-loop-call
invariant-loop-call g l = AllPerformed g.P.Presumption.answers (take l.call-index l.calls) (shown g.J.Journal.meaning l.initial.run) (shown g.J.Journal.meaning l.run) (vec_items l.answers)
