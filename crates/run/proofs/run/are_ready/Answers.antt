use Rattle.std.proofs.Common.{length, refl, ◌∙◌, arith, rules}
use Rattle.std.proofs.lemmas.Iterator.{YieldsList-from_range}
use Rattle.std.proofs.lemmas.Iterator.Search.{all_from_yields_List}
use Rattle.journal.specs.Meaning.{section}
use Rattle.run.proofs.Ready.{all_ready_is}
use Rattle.run.specs.State.{ready}
use Rattle.run.proofs.run.are_ready.Goals as goal

pub returns : goal.returns
returns g c =
    let m = g.J.Journal.meaning c.args.journal.now in
    all_from_yields_List (λ s. ready (section m s)) _ _ c.all.result c.all.ensures.ran (YieldsList-from_range 0 c.stations.result (length m) refl (omega arith)) (λ x b q k. search rules)
    ∙ all_ready_is m
