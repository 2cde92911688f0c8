use Rattle.assurance.proofs.Stepwise.{performed_next}
use Rattle.assurance.proofs.perform_all.Goals as goal

pub loop-call-preserved : goal.loop-call-preserved
loop-call-preserved g c =
    let items = simp c.in_ok-push.was at c.push.ensures.items in
    rw items (performed_next g.P.Presumption.answers c.args.calls.now c.loop-call.call-index _ c.perform.result c.loop-call-test.true c.loop-call.invariant c.perform.ensures.call c.perform.ensures.suits)
