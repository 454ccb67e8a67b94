-- How much room a plant's lists need, and how much there is.
use Rattle.std.specs.Prelude.{ℕ, ◌+◌, ◌*◌, ◌≤◌, min, Bool, ◌&&◌, List, length, nat_le, nat_lt}
use Rattle.std.specs.Borrow.{MutBor}
use Rattle.plants.specs.declared.lists.ListsOf.{ListsOf}
use Rattle.plants.specs.Columns.{Columns}
use Rattle.format.specs.declared.counts.Counts.{Counts}
use Rattle.format.specs.declared.counts.Space.{Space}

-- what the caller's lists hold
abbrev pub held : ListsOf (MutBor (List ℕ)) → Columns
held l = record {
  tails = l.tails.now;
  heads = l.heads.now;
  costs = l.costs.now;
  first_out = l.first_out.now;
  first_in = l.first_in.now;
  by_head = l.by_head.now;
  to = l.to.now;
  from = l.from.now;
}

-- the same lists when a call has returned, as a clause has them
abbrev pub Lent : Type 0
Lent =
    MutBor (List ℕ) × (MutBor (List ℕ) × (MutBor (List ℕ) × (MutBor (List ℕ) ×
    (MutBor (List ℕ) × (MutBor (List ℕ) × (MutBor (List ℕ) × (MutBor (List ℕ) × Unit {0})))))))

abbrev pub after : Lent → Columns
after l = record {
  tails = l.0.now;
  heads = l.1.0.now;
  costs = l.1.1.0.now;
  first_out = l.1.1.1.0.now;
  first_in = l.1.1.1.1.0.now;
  by_head = l.1.1.1.1.1.0.now;
  to = l.1.1.1.1.1.1.0.now;
  from = l.1.1.1.1.1.1.1.0.now;
}

-- the length of the shortest list of each kind
abbrev pub space_of : Columns → Space
space_of c = record {
  lanes = min (min (min (length c.tails) (length c.heads)) (length c.costs)) (length c.by_head);
  firsts = min (length c.first_out) (length c.first_in);
  tables = min (length c.to) (length c.from);
}

-- the counts are within the limits, and the lists are long enough
abbrev pub room_for : Counts → Counts → Space → Bool
room_for c r s =
    nat_le c.nodes r.nodes && (nat_le c.lanes r.lanes && (nat_le c.landmarks r.landmarks &&
    (nat_le c.lanes s.lanes && (nat_lt c.nodes s.firsts && nat_le (c.landmarks * c.nodes) s.tables))))

-- the lists are long enough for a plant with so many nodes and landmarks and with these lanes
pub record Spacious (nodes landmarks : ℕ) (tails heads costs : List ℕ) (s : Space) : Type 0 where
  pub for_tails : length tails ≤ s.lanes
  pub for_heads : length heads ≤ s.lanes
  pub for_costs : length costs ≤ s.lanes
  pub for_firsts : nodes + 1 ≤ s.firsts
  pub for_tables : landmarks * nodes ≤ s.tables
