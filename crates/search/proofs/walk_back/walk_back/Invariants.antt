use Rattle.std.proofs.Common.{◌≡◌, ◌-◌, ◌<◌, ◌≤◌, [], reverse, length, take, drop}
use Rattle.search.specs.Steps.{trace}
use Rattle.search.proofs.walk_back.walk_back.Given as goal

abbrev pub invariant-loop-i : goal.invariant-loop-i
invariant-loop-i g l =
    (l.v < (g.P.Plant.floor l.plant).nodes)
    × (trace g.P.Cost.CostKind.kind (g.P.Plant.floor l.plant) l.start l.rows ((g.P.Plant.floor l.plant).nodes - l.i) l.v (reverse (take l.i l.route)) ≡ trace g.P.Cost.CostKind.kind (g.P.Plant.floor l.plant) l.start l.rows (g.P.Plant.floor l.plant).nodes l.goal [])
    × (drop l.i l.route ≡ drop l.i l.initial.route)
    × (l.i ≤ length l.route)
