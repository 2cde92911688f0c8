use Rattle.std.proofs.Common.{ap, arith}
use Rattle.run.proofs.Settles.{draining_one, draining_falls, draining_done}
use Rattle.run.specs.Calls.{Reply}
use Rattle.run.specs.Runs.{seen, shown}
use Rattle.run.proofs.run.Run.drain.Goals as goal

pub loop-self-smaller : goal.loop-self-smaller
loop-self-smaller g c = draining_falls c.loop-self.invariant (grind arith) (seen g.J.Journal.meaning c.deliver.new.self) (ap (λ (r : Reply). r.state) c.deliver.ensures.reply)

pub loop-self-preserved : goal.loop-self-preserved
loop-self-preserved g c = draining_one c.loop-self.invariant (grind arith) (grind arith) (shown g.J.Journal.meaning c.deliver.new.self) (ap (λ (r : Reply). r.state) c.deliver.ensures.reply) c.deliver.ensures.presumes

pub returns-clause-settles : goal.returns-clause-settles
returns-clause-settles g c = draining_done c.loop-self.invariant (grind arith)
