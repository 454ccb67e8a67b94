-- The floor that a hall means, and which fault the cells for a hall have.
use Rattle.std.specs.Prelude.{ℕ, zero, suc, ◌+◌, ◌-◌, ◌*◌, ◌/◌, ◌%◌, min, Bool, cond, ◌&&◌, List, Some, None, Option, ◌==◌, nat_le, nat_lt, slice_index}
use Rattle.std.proofs.Common.{arith}
use Rattle.cost.specs.declared.class.Class.{Class}
use Rattle.plant.specs.declared.lane.Lane.{Lane}
use Rattle.plant.specs.Floor.{Floor}
use Rattle.plants.specs.declared.direction.Direction.{Direction}
use Rattle.plants.specs.declared.direction.Direction.TheVariants.{North, East, South, West}
use Rattle.plants.specs.declared.fault.PlantFault.{PlantFault}
use Rattle.plants.specs.declared.fault.PlantFault.TheVariants.{Counts, Lengths}
use Rattle.plants.specs.declared.hall.Hall.{Hall}
use Rattle.plants.specs.Index.{each}

-- of so many rows and columns, and a list of so many cells
abbrev pub hall_fault : ℕ → ℕ → ℕ → Option PlantFault
hall_fault rows columns size =
    cond (nat_le 1 rows && (nat_le 1 columns && nat_le (rows * columns) 4096))
    (cond (size == rows * columns) None (Some Lengths))
    (Some Counts)

-- a number as a class; every byte is one
abbrev pub class_of : ℕ → Class
class_of n = record { grade = min n 255; ok = omega arith }

abbrev pub has_north : ℕ → ℕ → Bool
has_north columns v = nat_le columns v

abbrev pub has_east : ℕ → ℕ → Bool
has_east columns v = nat_lt 0 ((v + 1) % columns)

abbrev pub has_south : ℕ → ℕ → ℕ → Bool
has_south nodes columns v = nat_lt (v + columns) nodes

abbrev pub has_west : ℕ → ℕ → Bool
has_west columns v = nat_lt 0 (v % columns)

-- the neighbour of v to the north, east, south or west, as the direction is 0, 1, 2 or 3; none where that leaves the hall
abbrev pub neighbour : ℕ → ℕ → ℕ → ℕ → Option ℕ
neighbour nodes columns v zero = cond (has_north columns v) (Some (v - columns)) None
neighbour nodes columns v (suc zero) = cond (has_east columns v) (Some (v + 1)) None
neighbour nodes columns v (suc (suc zero)) = cond (has_south nodes columns v) (Some (v + columns)) None
neighbour nodes columns v (suc (suc (suc d))) = cond (has_west columns v) (Some (v - 1)) None

-- the number of a direction
abbrev pub side_of : Direction → ℕ
side_of North = 0
side_of East = 1
side_of South = 2
side_of West = 3

-- the lane from v that enters a cell, or leads back to v
abbrev pub lane_to : List ℕ → ℕ → Option ℕ → Lane Class
lane_to cells v None = record { tail = v; head = v; cost = class_of 255 }
lane_to cells v (Some w) = record { tail = v; head = w; cost = class_of (slice_index cells w) }

abbrev pub hall_lane : ℕ → ℕ → List ℕ → ℕ → Lane Class
hall_lane nodes columns cells k = lane_to cells (k / 4) (neighbour nodes columns (k / 4) (k % 4))

-- every walk from v to another node w enters w's cell
abbrev pub hall_bound : ℕ → List ℕ → ℕ → ℕ → Class
hall_bound nodes cells v w =
    cond (nat_lt v nodes && nat_lt w nodes) (cond (v == w) (class_of 0) (class_of (slice_index cells w))) (class_of 0)

-- the floor of so many nodes in so many columns
abbrev pub grid : ℕ → ℕ → List ℕ → Floor Class
grid nodes columns cells = record {
  nodes = nodes;
  lanes = each (hall_lane nodes columns cells) 0 (4 * nodes);
  bound = hall_bound nodes cells;
}

abbrev pub hall_floor : Hall → Floor Class
hall_floor h = grid (h.rows * h.columns) h.columns h.cells.now
