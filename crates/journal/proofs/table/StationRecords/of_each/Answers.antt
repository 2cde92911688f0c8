use Rattle.std.proofs.Common.{rules, arith, ◌≡◌, ◌-◌, [], true, length, sym, ◌∙◌, ap, refl, get_or}
use Rattle.journal.specs.Limits.{table_records}
use Rattle.journal.specs.Meaning.{section_of}
use Rattle.std.specs.Iterator.Runs.{Run, YieldsRun}
use Rattle.std.specs.Range.{range_steps}
use Rattle.std.specs.contracts.prelude.U8Step.TheImpl.{steps_between-value, is_successor-value}
use Rattle.std.proofs.lemmas.Grind.{common_steps}
use Rattle.std.proofs.lemmas.Iterator.{YieldsList-from_range}
use Rattle.std.proofs.lemmas.Iterator.Consumers.{count_from_yields_List}
use Rattle.std.proofs.lemmas.List.FromFn.{length-range_with_len}
use Rattle.std.proofs.lemmas.List.{same_lists, length-replicate, get_or-replicate}
use Rattle.std.proofs.lemmas.Result.{IfOk-weaker}
use Rattle.journal.proofs.table.StationRecords.of_each.Goals as goal

-- A range that is run to its end gives as many numbers as lie in it.
range_len : (p : Run (range_steps steps_between-value.it is_successor-value.it)) → p.whole ≡ true → p.len ≡ p.from.end - p.from.start
unfolding YieldsRun
range_len p w =
    let d = p.gave.0 in
    let e = d.2 w in
    count_from_yields_List p.from p.len (p.items, (e.0, (d.0, d.1, e.1)), p.long) (YieldsList-from_range p.from.start p.from.end (p.from.end - p.from.start) refl refl)
    ∙ length-range_with_len p.from.start (p.from.end - p.from.start)

pub returns : goal.returns
returns c =
    IfOk-weaker c.try_collect.result _ _
    (λ v r.
    let m = c.map.ensures.runs r.0 r.0.seen r.1 in
    let long : m.0.len ≡ c.args.stations = omega (arith, range_len m.0 (m.2.0 ∙ r.2), ap (λ s. s.end - s.start) m.1) in
    let got = r.3 (λ xs u x w a b. search rules) in
    let n : length got.0 ≡ c.args.stations = got.2 ∙ (m.2.1 ∙ long) in
    got.1.0
    ∙ same_lists _ _ (n ∙ sym (length-replicate _ _)) (λ k d l.
    let new : get_or got.0 k d ≡ section_of table_records [] [] = grind (arith, common_steps) in
    new ∙ sym (get_or-replicate _ k _ d (omega (arith, n)))))
    c.try_collect.ensures.runs
