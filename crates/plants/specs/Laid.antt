-- The floor that the lists of a lane plant mean.
use Rattle.std.specs.Prelude.{ℕ, zero, suc, ◌-◌, min, max, cond, ◌&&◌, List, [], ◌∷◌, nat_lt, slice_index}
use Rattle.std.proofs.Common.{arith}
use Rattle.cost.specs.declared.length.Length.{Length}
use Rattle.plant.specs.declared.lane.Lane.{Lane}
use Rattle.plant.specs.Floor.{Floor}
use Rattle.plants.specs.declared.lane_plant.LanePlant.{LanePlant}
use Rattle.plants.specs.Columns.{Columns, columns, row}

-- a number as a length; every number of 32 bits is one
abbrev pub metres_of : ℕ → Length
metres_of n = record { metres = min n 4294967295; ok = omega arith }

abbrev pub lanes_of : List ℕ → List ℕ → List ℕ → List (Lane Length)
lanes_of [] hs cs = []
lanes_of (t ∷ ts) [] cs = []
lanes_of (t ∷ ts) (h ∷ hs) [] = []
lanes_of (t ∷ ts) (h ∷ hs) (c ∷ cs) = record { tail = t; head = h; cost = metres_of c } ∷ lanes_of ts hs cs

-- the greatest of f 0 to f (n - 1), 0 where there is none
abbrev pub greatest : (ℕ → ℕ) → ℕ → ℕ
greatest f zero = 0
greatest f (suc n) = max (greatest f n) (f n)

-- what the tables of landmark m show of the way from v to w: to(v) less to(w), and from(w) less from(v)
abbrev pub shown : ℕ → Columns → ℕ → ℕ → ℕ → ℕ
shown nodes c v w m =
    let to = row nodes c.to m in
    let from = row nodes c.from m in
    max (slice_index to v - slice_index to w) (slice_index from w - slice_index from v)

abbrev pub bound_of : ℕ → ℕ → Columns → ℕ → ℕ → Length
bound_of nodes landmarks c v w = cond (nat_lt v nodes && nat_lt w nodes) (metres_of (greatest (shown nodes c v w) landmarks)) (metres_of 0)

abbrev pub floor_of : LanePlant → Floor Length
floor_of p = record {
  nodes = p.nodes;
  lanes = lanes_of (columns p.lists).tails (columns p.lists).heads (columns p.lists).costs;
  bound = bound_of p.nodes p.landmarks (columns p.lists);
}
