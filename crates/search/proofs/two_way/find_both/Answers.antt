use Rattle.std.proofs.Common.{◌≡◌, ◌^◌, ◌<◌, false, length, sym, ap, ◌∙◌, arith, rules}
use Rattle.search.specs.TwoWay.{joined, two_way, two_route}
use Rattle.search.proofs.BothFacts.{nodes_short}
use Rattle.search.proofs.two_way.find_both.Goals as goal

pub write_both-nodes-requires-clause-short : goal.write_both-nodes-requires-clause-short
write_both-nodes-requires-clause-short g c =
    let k = g.P.Cost.CostKind.kind in
    let laws = g.met.P.Cost.CostKind.lawful in
    let f = g.P.Plant.floor c.args.plant.now in
    let start = c.args.start in
    let goal = c.args.goal in
    let ran = c.run_both-cost.ensures in
    let near : k.at_most k.beyond (two_way k f start goal).met.cost ≡ false =
    (λ i. k.at_most (sym c.beyond.ensures i) (sym ran.met i).cost) ∙ sym c.at_most.ensures ∙ c.if-at_most.false in
    let same : joined k f start goal c.run_both-cost.new.rows c.run_both-cost.new.back c.run_both-cost.result.node ≡ two_route k f start goal =
    λ i. joined k f start goal (ran.rows i) (ran.back i) (ran.met i).node in
    let short = nodes_short k f start goal laws (g.met.P.Lawful.lawful c.args.plant.now) c.requires.start c.requires.goal near in
    omega (arith, short, ap length same)

pub overflow_cast-nodes : goal.overflow_cast-nodes
overflow_cast-nodes g c =
    let k = g.P.Cost.CostKind.kind in
    let laws = g.met.P.Cost.CostKind.lawful in
    let f = g.P.Plant.floor c.args.plant.now in
    let start = c.args.start in
    let goal = c.args.goal in
    let ran = c.run_both-cost.ensures in
    let near : k.at_most k.beyond (two_way k f start goal).met.cost ≡ false =
    (λ i. k.at_most (sym c.beyond.ensures i) (sym ran.met i).cost) ∙ sym c.at_most.ensures ∙ c.if-at_most.false in
    let same : joined k f start goal c.run_both-cost.new.rows c.run_both-cost.new.back c.run_both-cost.result.node ≡ two_route k f start goal =
    λ i. joined k f start goal (ran.rows i) (ran.back i) (ran.met i).node in
    let short = nodes_short k f start goal laws (g.met.P.Lawful.lawful c.args.plant.now) c.requires.start c.requires.goal near in
    let h : c.write_both-nodes.result < 2 ^ 32 = omega (arith, c.write_both-nodes.ensures.count, ap length same, short, (g.met.P.Lawful.lawful c.args.plant.now).few_nodes) in
    search rules
