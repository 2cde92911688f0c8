use Rattle.std.proofs.Common.{true, ap, ◌∙◌, arith}
use Rattle.std.proofs.lemmas.List.{length-set}
use Rattle.std.proofs.lemmas.List.Edits.{fill_by_more}
use Rattle.std.proofs.lemmas.List.FromFn.{fill_by_all}
use Rattle.station.specs.Limits.{most_revisions}
use Rattle.station.specs.Recovery.{stable_records}
use Rattle.stations.specs.Stations.{no_entries, resumed, rebuilt}
use Rattle.stations.proofs.Station.rebuild.Goals as goal

pub loop-revision-preserved : goal.loop-revision-preserved
loop-revision-preserved g c =
    let entries = resumed (g.P.Presumption.answers c.args.presumption.now) (stable_records (g.J.Journal.meaning c.args.journal.now) c.args.station) in
    let l = c.loop-revision in
    rw (c.from.ensures, c.recover_coordinator.ensures, c.recover_subordinate.ensures)
    (length-set l.entries l.revision (entries l.revision) ∙ l.invariant.0, fill_by_more entries l.entries l.revision no_entries (omega (arith, l.invariant.0)) l.invariant.1)

pub returns : goal.returns
unfolding rebuilt
returns g c =
    let entries = resumed (g.P.Presumption.answers c.args.presumption.now) (stable_records (g.J.Journal.meaning c.args.journal.now) c.args.station) in
    let l = c.loop-revision in
    ap (λ v. record { power = true; entries = v }) (fill_by_all entries l.entries most_revisions no_entries l.invariant.0 (λ k h. l.invariant.1 k (omega arith)))
