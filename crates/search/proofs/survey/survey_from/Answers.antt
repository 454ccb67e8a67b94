use Rattle.std.proofs.Common.{◌≡◌, ◌-◌, List, length, sym, ap, ◌∙◌, subst, arith}
use Rattle.std.proofs.lemmas.List.{length-take-le}
use Rattle.search.specs.Survey.{survey}
use Rattle.search.specs.Surveyed.{CostsLeast}
use Rattle.search.proofs.LeastCosts.{least_exist}
use Rattle.search.proofs.SurveyFacts.{costs_least}
use Rattle.search.proofs.FaultFacts.{node_in, room_in}
use Rattle.search.specs.declared.fault.SearchFault.TheVariants.{Start, Rows}
use Rattle.search.proofs.survey.survey_from.Goals as goal

pub returns-clause-least : goal.returns-clause-least
returns-clause-least g c =
    let k = g.P.Cost.CostKind.kind in
    let laws = g.met.P.Cost.CostKind.lawful in
    let f = g.P.Plant.floor c.args.plant.now in
    let start = c.args.start in
    let fl = c.node_count-n.ensures.lawful in
    let counts = c.node_count-n.ensures.counts in
    let xs = c.args.rows.now in
    let ys = c.explore.new.rows in
    let n = c.node_count-n.result in
    let a = node_in f start (Start start) c.in_ok-check_node.ensures in
    let rows = room_in f (length xs) Rows c.in_ok-check_room.ensures in
    let told = c.explore.ensures in
    let long : length ys ≡ n - 0 = c.explore.auto.rows ∙ length-take-le (n - 0) xs (omega (arith, rows, counts)) in
    let whole : length (survey k f start) ≡ f.nodes = sym (ap length told.rows) ∙ long ∙ (omega (arith, counts)) in (
      subst (λ (l : List g.row.P-Cost.Denot). CostsLeast k f start l) (sym told.costs) (costs_least k laws f fl start a c.args.costs.now whole),
      least_exist laws fl,
    )
