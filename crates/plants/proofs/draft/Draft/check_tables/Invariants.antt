-- What is left of the walk finds what the whole walk finds.
use Rattle.std.proofs.Common.{◌≡◌, ◌-◌, ◌*◌, drop}
use Rattle.plants.specs.Columns.{columns}
use Rattle.plants.specs.Faults.{table_fault}
use Rattle.plants.proofs.draft.Draft.check_tables.Given as goal

abbrev pub invariant-loop-landmark : goal.invariant-loop-landmark
invariant-loop-landmark l = record {
  to_size : l.landmark-iterator.iter.a.size ≡ l.self.nodes;
  to : l.landmark-iterator.iter.a.rest.now ≡ drop (l.landmark-iterator.count * l.self.nodes) l.self.lists.to.now;
  from_size : l.landmark-iterator.iter.b.size ≡ l.self.nodes;
  from : l.landmark-iterator.iter.b.rest.now ≡ drop (l.landmark-iterator.count * l.self.nodes) l.self.lists.from.now;
  left : table_fault l.self.nodes (columns l.self.lists) l.landmark-iterator.count (l.self.landmarks - l.landmark-iterator.count) ≡ table_fault l.self.nodes (columns l.self.lists) 0 l.self.landmarks;
}
