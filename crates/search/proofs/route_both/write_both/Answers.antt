use Rattle.std.proofs.Common.{◌≡◌, ℕ, ◌+◌, ◌-◌, ◌<◌, ◌≤◌, List, [], length, take, drop, sym, ap, ◌∙◌, arith, length-drop}
use Rattle.std.proofs.lemmas.List.{length-reverse, length-take-le}
use Rattle.plant.specs.Floor.{turned}
use Rattle.search.specs.Lists.{onto}
use Rattle.search.specs.Steps.{trace}
use Rattle.search.proofs.JoinFacts.{before, trace_last, trace_back, joined_parts, joined_length, first_count, both_written}
use Rattle.search.proofs.route_both.write_both.Goals as goal

pub overflow_sub-from : goal.overflow_sub-from
overflow_sub-from g c =
    let k = g.P.Cost.CostKind.kind in
    let f = g.P.Plant.floor c.args.plant.now in
    let start = c.args.start in
    let goal = c.args.goal in
    let via = c.args.via in
    let rows = c.args.rows.now in
    let back = c.args.back.now in
    let some = (g.met.P.Lawful.lawful c.args.plant.now).some_node in
    let n = c.write_route-from.result in
    let xs = c.write_route-from.new.route in
    let told = c.write_route-from.ensures in
    let front = before k f start rows f.nodes via some in
    let h : n ≤ length xs = omega (arith, told.count, c.write_route-from.auto.route, c.requires.route, c.requires.rows) in
    let e = told.wrote ∙ trace_last k f start rows f.nodes via some [] in
    let count : n ≡ length front + 1 = first_count n 0 xs [] [] front [] via h e in
    omega (arith, count)

pub walk_back-more-requires-clause-route : goal.walk_back-more-requires-clause-route
walk_back-more-requires-clause-route g c =
    let k = g.P.Cost.CostKind.kind in
    let f = g.P.Plant.floor c.args.plant.now in
    let start = c.args.start in
    let goal = c.args.goal in
    let via = c.args.via in
    let rows = c.args.rows.now in
    let back = c.args.back.now in
    let some = (g.met.P.Lawful.lawful c.args.plant.now).some_node in
    let n = c.write_route-from.result in
    let xs = c.write_route-from.new.route in
    let told = c.write_route-from.ensures in
    let front = before k f start rows f.nodes via some in
    let h : n ≤ length xs = omega (arith, told.count, c.write_route-from.auto.route, c.requires.route, c.requires.rows) in
    let e = told.wrote ∙ trace_last k f start rows f.nodes via some [] in
    let count : n ≡ length front + 1 = first_count n 0 xs [] [] front [] via h e in
    let whole = joined_length k f start goal rows back via some in
    let part : length (take (length xs - (n - 1)) (drop (n - 1) xs)) ≡ length xs - (n - 1) = length-take-le (length xs - (n - 1)) (drop (n - 1) xs) (omega (arith, length-drop (n - 1) xs)) in
    omega (arith, part, whole, count, c.requires.short, c.requires.route, c.write_route-from.auto.route)

pub returns : goal.returns
returns g c =
    let k = g.P.Cost.CostKind.kind in
    let f = g.P.Plant.floor c.args.plant.now in
    let start = c.args.start in
    let goal = c.args.goal in
    let via = c.args.via in
    let rows = c.args.rows.now in
    let back = c.args.back.now in
    let some = (g.met.P.Lawful.lawful c.args.plant.now).some_node in
    let n = c.write_route-from.result in
    let xs = c.write_route-from.new.route in
    let told = c.write_route-from.ensures in
    let front = before k f start rows f.nodes via some in
    let h : n ≤ length xs = omega (arith, told.count, c.write_route-from.auto.route, c.requires.route, c.requires.rows) in
    let e = told.wrote ∙ trace_last k f start rows f.nodes via some [] in
    let count : n ≡ length front + 1 = first_count n 0 xs [] [] front [] via h e in
    let second = trace k (turned f) goal back f.nodes via [] in
    let ys = c.walk_back-more.new.route in
    let more = c.walk_back-more.result in
    let wrote = c.walk_back-more.ensures in
    let part : length (take (length xs - (n - 1)) (drop (n - 1) xs)) ≡ length xs - (n - 1) = length-take-le (length xs - (n - 1)) (drop (n - 1) xs) (omega (arith, length-drop (n - 1) xs)) in
    let long : length ys ≡ length xs - (n - 1) = c.walk_back-more.auto.route ∙ part in
    let fits : more ≤ length ys = omega (arith, wrote.fits, part, long) in
    let last = ap length (trace_back k (turned f) goal back f.nodes via some) in
    let counted : length second ≡ more = ap length (sym wrote.wrote) ∙ length-reverse (take more ys) ∙ length-take-le more ys fits in
    let some_more : 0 < more = omega (arith, last, length-reverse second, counted) in
    let all = both_written n more xs ys c.args.route.now front second via h e told.kept long fits wrote.wrote some_more wrote.kept in
    let is = joined_parts k f start goal rows back via some in
    record { count = all.0 ∙ sym (ap length is); wrote = all.1 ∙ ap (λ (zs : List ℕ). onto zs c.args.route.now) (sym is) }
