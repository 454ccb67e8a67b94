use Rattle.std.proofs.Common.{◌≡◌, suc, ◌-◌, ◌*◌, ◌<◌}
use Rattle.search.specs.Sides.{floor_of, Facing, IsReady}
use Rattle.search.specs.TwoWay.{both_of, two_from, two_way}
use Rattle.search.proofs.two_sides.run_both.Given as goal

abbrev pub invariant-loop : goal.invariant-loop
invariant-loop g l =
    IsReady l.near
    × IsReady l.far
    × (l.met.node < (g.P.Plant.floor l.plant).nodes)
    × (floor_of l.near ≡ g.P.Plant.floor l.plant)
    × (l.near.source ≡ l.start)
    × (l.near.target ≡ l.goal)
    × Facing l.near l.far
    × (l.near.rows.ghost_name ≡ l.initial.near.rows.ghost_name)
    × (l.far.rows.ghost_name ≡ l.initial.far.rows.ghost_name)
    × ((x : g.row.P-Cost.Denot) × (
    two_from g.P.Cost.CostKind.kind (g.P.Plant.floor l.plant) l.start l.goal (suc (2 * (g.P.Plant.floor l.plant).nodes) - 2 * l.counter) (both_of l.near.rows.now x l.far.rows.now l.back_last l.met)
    ≡ two_way g.P.Cost.CostKind.kind (g.P.Plant.floor l.plant) l.start l.goal
    ))
