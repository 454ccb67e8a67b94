-- After m landmarks, the best is the greatest of what those show.
use Rattle.std.proofs.Common.{◌≡◌, ℕ, ◌*◌, ◌≤◌, drop}
use Rattle.plants.specs.Columns.{columns}
use Rattle.plants.specs.Laid.{greatest, shown}
use Rattle.plants.proofs.questions.LanePlantPlant.bound.Given as goal

abbrev pub invariant-loop-to : goal.invariant-loop-to
invariant-loop-to l = record {
  m : ℕ;
  passed : m ≤ l.self.landmarks;
  to_size : l.to-iterator.a.size ≡ l.self.nodes;
  to : l.to-iterator.a.rest.now ≡ drop (m * l.self.nodes) l.self.lists.to.now;
  from_size : l.to-iterator.b.size ≡ l.self.nodes;
  from : l.to-iterator.b.rest.now ≡ drop (m * l.self.nodes) l.self.lists.from.now;
  best : l.best ≡ greatest (shown l.self.nodes (columns l.self.lists) l.v l.w) m;
}
