use Rattle.std.proofs.Common.{◌≡◌, suc, ◌-◌}
use Rattle.search.specs.OneWay.{one_from}
use Rattle.search.specs.Sides.{floor_of, IsReady, Kept}
use Rattle.search.specs.Steps.{count_scanned}
use Rattle.search.proofs.one_way.scan_all.Given as goal

abbrev pub invariant-loop-e : goal.invariant-loop-e
invariant-loop-e g l =
    IsReady l.side
    × Kept l.initial.side l.side
    × (l.side.rows.ghost_name ≡ l.initial.side.rows.ghost_name)
    × (l.scanned ≡ count_scanned l.side.rows.now)
    × (one_from g.P.Cost.CostKind.kind (floor_of l.initial.side) l.initial.side.target (suc (floor_of l.initial.side).nodes - l.scanned) l.side.rows.now ≡ one_from g.P.Cost.CostKind.kind (floor_of l.initial.side) l.initial.side.target (suc (floor_of l.initial.side).nodes) l.initial.side.rows.now)

abbrev pub decreases-loop-e : goal.decreases-loop-e
decreases-loop-e g l = suc (floor_of l.initial.side).nodes - l.scanned
