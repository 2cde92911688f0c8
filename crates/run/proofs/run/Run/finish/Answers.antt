use Rattle.std.proofs.Common.{arith, rules}
use Rattle.run.proofs.Settles.{adds_asking, urged_light, inquired_light, settles_then, going_more, going_done, finished_is, urging_first, settles_as}
use Rattle.run.specs.Calls.{coordinator_entry}
use Rattle.run.specs.Runs.{seen, shown}
use Rattle.run.specs.Settling.{progress, urged, inquired}
use Rattle.stations.specs.Stations.{subordinate_at}
use Rattle.run.proofs.run.Run.finish.Goals as goal

pub drain-deliveries-requires : goal.drain-deliveries-requires
drain-deliveries-requires g c = (urged_light (g.P.Presumption.answers c.args.self.now.presumption) _ _ _ c.requires c.urge.ensures.state).0

pub drain-deliveries-requires-in-loop-station : goal.drain-deliveries-requires-in-loop-station
drain-deliveries-requires-in-loop-station g c = (inquired_light (g.P.Presumption.answers c.loop-station.self.presumption) _ _ _ _ c.loop-station.invariant.ready c.resolve.ensures.state).0

pub overflow_add-deliveries : goal.overflow_add-deliveries
overflow_add-deliveries g c =
    omega (arith, (urged_light (g.P.Presumption.answers c.args.self.now.presumption) _ _ _ c.requires c.urge.ensures.state).1, (inquired_light (g.P.Presumption.answers c.loop-station.self.presumption) _ _ _ _ c.loop-station.invariant.ready c.resolve.ensures.state).1, c.loop-station.invariant.few)

pub loop-station-preserved : goal.loop-station-preserved
loop-station-preserved g c =
    let r = c.args.revision in
    let s = c.loop-station.station in
    let light = inquired_light (g.P.Presumption.answers c.loop-station.self.presumption) _ _ _ _ c.loop-station.invariant.ready c.resolve.ensures.state in
    going_more c.loop-station.invariant c.loop-station-test.true _ _ (adds_asking _ r s)
    (settles_then g.P.Presumption.answers (λ π st. inquired π (subordinate_at st.stations s r) r s st) c.resolve.ensures.state c.resolve.ensures.presumes c.drain-deliveries-in-loop-station.ensures.settles)
    (omega (arith, light.1, c.drain-deliveries-in-loop-station.ensures.few))

pub returns-clause-few : goal.returns-clause-few
returns-clause-few g c = omega (arith, (urged_light (g.P.Presumption.answers c.args.self.now.presumption) _ _ _ c.requires c.urge.ensures.state).1, c.loop-station.invariant.few)

pub returns-clause-settles : goal.returns-clause-settles
returns-clause-settles g c =
    let π = g.P.Presumption.answers c.args.self.now.presumption in
    let r = c.args.revision in
    let first = settles_then g.P.Presumption.answers (λ π st. urged π (coordinator_entry r st) r st) c.urge.ensures.state c.urge.ensures.presumes c.drain-deliveries.ensures.settles in
    settles_as (going_done c.loop-station.invariant c.loop-station-test.false (shown g.J.Journal.meaning c.args.self.now) (urging_first π r) first) (finished_is π r c.len-stations.result (progress (seen g.J.Journal.meaning c.args.self.now) 0) (search rules))
