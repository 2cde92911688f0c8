use Rattle.std.proofs.Common.{rules, arith, sym, ◌∙◌}
use borrow.Author.Tests.{tests}
use Rattle.std.proofs.lemmas.List.{take_all}
use Rattle.std.proofs.lemmas.Iterator.{YieldsList-from_slice}
use Rattle.std.proofs.lemmas.Iterator.Search.{all_from_yields_List}
use Rattle.stations.specs.declared.Station.{Station}
use Rattle.stations.proofs.Powers.{all_power-every}
use Rattle.stations.proofs.Stations.all_have_power.Goals as goal

pub returns : goal.returns
returns c =
    all_from_yields_List (λ (x : Station). x.power) _ _ _ c.all.ensures.ran (YieldsList-from_slice c.args.self.now (grind (arith, take_all))) (λ x b q k. search (rules, tests))
    ∙ sym (all_power-every c.args.self.now)
