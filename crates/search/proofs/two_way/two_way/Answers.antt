use Rattle.std.proofs.Common.{◌≡◌, ◌-◌, length, ◌∙◌, arith}
use Rattle.std.proofs.lemmas.List.{length-take-le}
use Rattle.std.proofs.lemmas.Slice.{take-put_mid}
use Rattle.search.proofs.BothFacts.{right_both}
use Rattle.search.proofs.FaultFacts.{node_in, room_in}
use Rattle.search.specs.declared.fault.SearchFault.TheVariants.{Start, Goal, Rows}
use Rattle.search.proofs.two_way.two_way.Goals as goal

pub returns-clause-right : goal.returns-clause-right
returns-clause-right g c =
    let k = g.P.Cost.CostKind.kind in
    let laws = g.met.P.Cost.CostKind.lawful in
    let f = g.P.Plant.floor c.args.plant.now in
    let start = c.args.start in
    let goal = c.args.goal in
    let fl = c.node_count-n.ensures.lawful in
    let counts = c.node_count-n.ensures.counts in
    let n = c.node_count-n.result in
    let xs = c.args.rows.now in
    let ys = c.find_both.new.rows in
    let xs' = c.args.back.now in
    let ys' = c.find_both.new.back in
    let a = node_in f start (Start start) c.in_ok-check_node.ensures in
    let b = node_in f goal (Goal goal) c.in_ok-check_node-2.ensures in
    let rows = room_in f (length xs) Rows c.in_ok-check_room.ensures in
    let rows' = room_in f (length xs') Rows c.in_ok-check_room-2.ensures in
    let found = c.find_both.ensures in
    let long : length ys ≡ n - 0 = c.find_both.auto.rows ∙ length-take-le (n - 0) xs (omega (arith, rows, counts)) in
    let long' : length ys' ≡ n - 0 = c.find_both.auto.back ∙ length-take-le (n - 0) xs' (omega (arith, rows', counts)) in
    let kept = take-put_mid 0 (n - 0) xs ys f.nodes (omega (arith, long, counts)) (omega arith) ∙ found.rows in
    let kept' = take-put_mid 0 (n - 0) xs' ys' f.nodes (omega (arith, long', counts)) (omega arith) ∙ found.back in
    right_both k f start goal laws fl a b c.find_both.result c.args.route.now c.find_both.new.route _ _ found.answer found.route kept kept'
