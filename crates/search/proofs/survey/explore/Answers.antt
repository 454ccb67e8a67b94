use Rattle.std.proofs.Common.{◌≡◌, ℕ, List, map, ap, ◌∙◌}
use Rattle.plant.specs.Floor.{blinded}
use Rattle.search.specs.declared.row.Row.{Row}
use Rattle.search.specs.Lists.{onto}
use Rattle.search.specs.OneWay.{one_way}
use Rattle.search.specs.Steps.{count_scanned, label_of}
use Rattle.search.specs.Survey.{survey}
use Rattle.search.proofs.SurveyFacts.{survey_rows}
use Rattle.search.proofs.survey.explore.Goals as goal

pub returns : goal.returns
returns g c =
    let k = g.P.Cost.CostKind.kind in
    let f = g.P.Plant.floor c.args.plant.now in
    let ran = c.run-scanned.ensures in
    let nowhere : c.node_count-nowhere.result ≡ f.nodes = c.node_count-nowhere.ensures.counts in
    let rows : c.run-scanned.new.rows ≡ survey k f c.args.start =
    ran.rows ∙ ap (λ (n : ℕ). (one_way k (blinded k f) c.args.start n).rows) nowhere ∙ survey_rows k g.met.P.Cost.CostKind.lawful f (g.met.P.Lawful.lawful c.args.plant.now) c.args.start c.requires.start in
    record {
      rows = rows;
      count = ran.scanned ∙ ap (λ (xs : List (Row g.row.P-Cost.Denot)). count_scanned xs) rows;
      costs = c.write_labels.ensures ∙ ap (λ (xs : List (Row g.row.P-Cost.Denot)). onto (map label_of xs) c.args.costs.now) rows;
    }
