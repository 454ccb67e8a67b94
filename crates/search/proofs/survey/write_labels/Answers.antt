use Rattle.std.proofs.Common.{◌<◌, List, map, length, take, set, sym, ap, ◌∙◌, arith}
use Rattle.search.specs.declared.row.Row.{Row}
use Rattle.search.specs.Lists.{onto}
use Rattle.search.specs.Steps.{label_of}
use Rattle.search.proofs.SurveyFacts.{onto_labels}
use Rattle.search.proofs.survey.write_labels.Goals as goal

pub loop-i-preserved : goal.loop-i-preserved
loop-i-preserved g c =
    let rows = c.args.rows.now in
    let i = c.loop-i.i in
    let lt : i < length c.args.costs.now = omega (arith, c.requires, c.loop-i-test.true) in
    let item = c.index-rows-i.result in
    ap (λ (l : List g.row.C.Denot). set l i item.label) c.loop-i.invariant
    ∙ ap (λ (r : Row g.row.C.Denot). set (onto (map label_of (take i rows)) c.args.costs.now) i r.label) c.index-rows-i.is
    ∙ sym (onto_labels rows c.args.costs.now i c.index-rows-i.result c.loop-i-test.true lt)
