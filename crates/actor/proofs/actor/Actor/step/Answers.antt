use Rattle.std.proofs.Common.{rules}
use Rattle.actor.specs.Actors.{store_of}
use Rattle.actor.proofs.Steps.{answer_of_step}
use Rattle.actor.proofs.actor.Actor.step.Goals as goal

pub returns-in_err-perform-clause-answer : goal.returns-in_err-perform-clause-answer
returns-in_err-perform-clause-answer g c =
    rw (answer_of_step c.args.station (store_of g.J.Journal.meaning c.args.self.now)) (search rules)

pub returns-clause-answer : goal.returns-clause-answer
returns-clause-answer g c =
    rw (answer_of_step c.args.station (store_of g.J.Journal.meaning c.args.self.now)) (search rules)
