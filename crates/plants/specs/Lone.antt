-- The lists of the plant of one node and no lane.
use Rattle.std.specs.Prelude.{[], ◌∷◌}
use Rattle.plants.specs.Columns.{Columns}

abbrev pub lone_columns : Columns
lone_columns = record {
  tails = [];
  heads = [];
  costs = [];
  first_out = 0 ∷ 0 ∷ [];
  first_in = 0 ∷ 0 ∷ [];
  by_head = [];
  to = [];
  from = [];
}
