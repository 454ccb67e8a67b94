-- Following lanes while somebody watches, who is told of each node that is relabelled and of its new label.
use Rattle.std.specs.Prelude.{ℕ, cond, List, [], ◌∷◌}
use Rattle.std.specs.List.{slice_get}
use Rattle.cost.specs.Kind.{Kind}
use Rattle.plant.specs.Floor.{Floor}
use Rattle.plant.specs.Walk.{lane_cost, lane_head}
use Rattle.search.specs.declared.row.Row.{Row}
use Rattle.search.specs.Rows.{row_at}
use Rattle.search.specs.Steps.{is_relabelled, follow}

-- a side's rows, and who watches, while a node's lanes are followed
pub record Heard (C W : Type 0) : Type 0 where
  pub rows : List (Row C)
  pub watch : W

abbrev pub heard : {C W : Type 0} → List (Row C) → W → Heard C W
heard rows watch = record { rows = rows; watch = watch }

-- lane i is followed from a node with label g; `tell` says what the watcher makes of the node and its label
abbrev pub follow_heard : {C W : Type 0} → (W → ℕ → C → W) → Kind C → Floor C → C → Heard C W → ℕ → Heard C W
follow_heard tell k f g s i =
    let lane = slice_get f.lanes i in
    let w = lane_head lane in
    let c = k.join g (lane_cost k lane) in
    record {
      rows = follow k f g s.rows i;
      watch = cond (is_relabelled k c (row_at k s.rows w)) (tell s.watch w c) s.watch;
    }

abbrev pub follow_all_heard : {C W : Type 0} → (W → ℕ → C → W) → Kind C → Floor C → C → Heard C W → List ℕ → Heard C W
follow_all_heard tell k f g s [] = s
follow_all_heard tell k f g s (i ∷ is) = follow_all_heard tell k f g (follow_heard tell k f g s i) is
