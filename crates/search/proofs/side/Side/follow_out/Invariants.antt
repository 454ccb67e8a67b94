use Rattle.std.proofs.Common.{◌≡◌, ◌+◌, ◌≤◌, length, drop}
use Rattle.plant.specs.Floor.{out_of}
use Rattle.queue.specs.Held.{count, room}
use Rattle.search.specs.Heard.{heard, follow_all_heard}
use Rattle.search.specs.Sides.{floor_of, Fronted, Kept}
use Rattle.search.proofs.side.Side.follow_out.Given as goal

abbrev pub invariant-loop-lane : goal.invariant-loop-lane
invariant-loop-lane g l =
    (goal.iterator-loop-lane g).can_next l.lane-iterator
    × (goal.iterator-loop-lane g).is_finite l.lane-iterator
    × (l.lane-iterator.plant ≡ l.initial.self.plant)
    × (l.lane-iterator.node ≡ l.node)
    × (l.lane-iterator.next ≤ length (out_of (floor_of l.initial.self) l.node))
    × (follow_all_heard g.W.Watch.told g.P.Cost.CostKind.kind (floor_of l.initial.self) l.from (heard l.self.rows.now l.watch) (drop l.lane-iterator.next (out_of (floor_of l.initial.self) l.node)) ≡ follow_all_heard g.W.Watch.told g.P.Cost.CostKind.kind (floor_of l.initial.self) l.from (heard l.initial.self.rows.now l.initial.watch) (out_of (floor_of l.initial.self) l.node))
    × Fronted l.self
    × (count l.self.queue.now ≤ count l.initial.self.queue.now + l.lane-iterator.next)
    × (room l.self.queue.now ≡ room l.initial.self.queue.now)
    × Kept l.initial.self l.self
    × (l.self.rows.ghost_name ≡ l.initial.self.rows.ghost_name)
