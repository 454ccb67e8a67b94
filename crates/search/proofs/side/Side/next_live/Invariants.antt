use Rattle.std.proofs.Common.{◌≡◌, ◌≤◌}
use Rattle.std.specs.List.{ContainsAt}
use Rattle.queue.specs.Held.{held, count, room}
use Rattle.search.specs.declared.entry.Entry.{Entry}
use Rattle.search.specs.Sides.{Kept}
use Rattle.search.specs.Ties.{Live}
use Rattle.search.proofs.side.Side.next_live.Given as goal

abbrev pub invariant-loop-e : goal.invariant-loop-e
invariant-loop-e g l =
    (room l.self.queue.now ≡ room l.initial.self.queue.now)
    × (count l.self.queue.now ≤ count l.initial.self.queue.now)
    × ((y : Entry g.row.P-Cost.Denot) → ContainsAt (held l.self.queue.now) y → ContainsAt (held l.initial.self.queue.now) y)
    × ((y : Entry g.row.P-Cost.Denot) → ContainsAt (held l.initial.self.queue.now) y → Live g.P.Cost.CostKind.kind l.initial.self.rows.now y → ContainsAt (held l.self.queue.now) y)
    × (l.self.rows.now ≡ l.initial.self.rows.now)
    × (l.self.rows.ghost_name ≡ l.initial.self.rows.ghost_name)
    × Kept l.initial.self l.self

abbrev pub decreases-loop-e : goal.decreases-loop-e
decreases-loop-e g l = count l.self.queue.now
