use Rattle.std.proofs.Common.{rules}
use Rattle.run.proofs.Settles.{adds_finished, going_more, going_done, settled_is, settles_as}
use Rattle.run.specs.Runs.{seen, shown}
use Rattle.run.specs.Settling.{drained}
use Rattle.run.proofs.run.Run.finish_all.Goals as goal

pub loop-revision-preserved : goal.loop-revision-preserved
loop-revision-preserved g c = going_more c.loop-revision.invariant c.loop-revision-test.true _ _ (adds_finished _ _) c.finish-deliveries.ensures.settles c.finish-deliveries.ensures.few

pub returns : goal.returns
returns g c =
    let π = g.P.Presumption.answers c.args.self.now.presumption in
    settles_as (going_done c.loop-revision.invariant c.loop-revision-test.false (shown g.J.Journal.meaning c.args.self.now) (drained π) c.drain-deliveries.ensures.settles) (settled_is π c.opened-revisions.result (seen g.J.Journal.meaning c.args.self.now) (search rules))
