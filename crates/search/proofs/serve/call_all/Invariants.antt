use Rattle.std.proofs.Common.{◌≡◌}
use Rattle.plant.specs.Shifted.{closed_list}
use Rattle.search.specs.Lent.{lengths, SameLent}
use Rattle.search.specs.Serving.{Serving}
use Rattle.search.proofs.serve.call_all.Given as goal

abbrev pub invariant-loop-i : goal.invariant-loop-i
invariant-loop-i g l =
    let e = l.initial in
    let a = e.areas in
    let b = l.areas in
    record {
      served : Serving g.P.Cost.CostKind.kind (g.P.Plant.floor e.shift.below) (lengths a) e.calls (closed_list e.shift) e.replies a.routes.now a.rows.now a.back_rows.now l.i l.at (closed_list l.shift) l.replies b.routes.now b.rows.now b.back_rows.now;
      below : l.shift.below ≡ e.shift.below;
      same : SameLent a b;
    }
