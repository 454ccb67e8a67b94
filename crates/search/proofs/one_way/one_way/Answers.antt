use Rattle.std.proofs.Common.{◌≡◌, ◌-◌, length, ◌∙◌, arith}
use Rattle.std.proofs.lemmas.List.{length-take-le}
use Rattle.std.proofs.lemmas.Slice.{take-put_mid}
use Rattle.search.specs.Steps.{count_scanned}
use Rattle.search.specs.OneWay.{one_way}
use Rattle.search.proofs.AnswerFacts.{right_of}
use Rattle.search.proofs.FaultFacts.{node_in, room_in}
use Rattle.search.specs.declared.fault.SearchFault.TheVariants.{Start, Goal, Rows}
use Rattle.search.proofs.Answers.{one_way_right}
use Rattle.search.proofs.one_way.one_way.Goals as goal

pub returns-clause-right : goal.returns-clause-right
returns-clause-right g c =
    let k = g.P.Cost.CostKind.kind in
    let laws = g.met.P.Cost.CostKind.lawful in
    let f = g.P.Plant.floor c.args.plant.now in
    let start = c.args.start in
    let goal = c.args.goal in
    let fl = c.node_count-n.ensures.lawful in
    let counts = c.node_count-n.ensures.counts in
    let xs = c.args.rows.now in
    let ys = c.find.new.rows in
    let n = c.node_count-n.result in
    let a = node_in f start (Start start) c.in_ok-check_node.ensures in
    let b = node_in f goal (Goal goal) c.in_ok-check_node-2.ensures in
    let rows = room_in f (length xs) Rows c.in_ok-check_room.ensures in
    let found = c.find.ensures in
    let long : length ys ≡ n - 0 = c.find.auto.rows ∙ length-take-le (n - 0) xs (omega (arith, rows, counts)) in
    let kept = take-put_mid 0 (n - 0) xs ys f.nodes (omega (arith, long, counts)) (omega arith) ∙ found.rows in
    right_of k f start goal laws (one_way_right laws fl a b) (count_scanned (one_way k f start goal).rows) c.find.result c.args.route.now c.find.new.route _ found.answer found.route kept
