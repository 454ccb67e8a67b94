-- The two-way search: one side goes from the start and one from the goal, by turns, until no node can better the best route met.
use Rattle.std.specs.Prelude.{ℕ, zero, suc, ◌*◌, true, false, cond, List, [], ◌∷◌, reverse, drop, Some, None, ◌==◌}
use Rattle.std.specs.List.{slice_get}
use Rattle.cost.specs.Kind.{Kind}
use Rattle.plant.specs.Floor.{Floor, out_of, turned}
use Rattle.plant.specs.Walk.{lane_cost, lane_head}
use Rattle.search.specs.declared.entry.Entry.{Entry}
use Rattle.search.specs.declared.meeting.Meeting.{Meeting}
use Rattle.search.specs.declared.row.Row.{Row}
use Rattle.search.specs.declared.row.State.{State}
use Rattle.search.specs.declared.row.State.TheVariants.{Scanned, Dropped}
use Rattle.search.specs.Rows.{is_scanned, row_at, below}
use Rattle.search.specs.Steps.{pick, is_relabelled, follow, mark, start_rows, trace}

-- one side: its rows, and the last key that it picked
pub record Side (C : Type 0) : Type 0 where
  pub rows : List (Row C)
  pub last : C

-- this side's rows and the meeting while a node's lanes are followed
pub record Spread (C : Type 0) : Type 0 where
  pub rows : List (Row C)
  pub met : Meeting C

abbrev pub spread : {C : Type 0} → List (Row C) → Meeting C → Spread C
spread rows met = record { rows = rows; met = met }

-- the side whose turn it is, the other one, and the best so far
pub record Both (C : Type 0) : Type 0 where
  pub near : Side C
  pub far : Side C
  pub met : Meeting C

abbrev pub both_of : {C : Type 0} → List (Row C) → C → List (Row C) → C → Meeting C → Both C
both_of rows last others others-last met = record { near = record { rows = rows; last = last }; far = record { rows = others; last = others-last }; met = met }

-- a route over w that costs c is put in place of the best where it is below it
abbrev pub meet : {C : Type 0} → Kind C → C → ℕ → Meeting C → Meeting C
meet k c w m = cond (below k c m.cost) (record { cost = c; node = w }) m

-- lane i is followed from a node with label g; where its head is relabelled, both labels of the head are joined
abbrev pub follow_meet : {C : Type 0} → Kind C → Floor C → List (Row C) → C → Spread C → ℕ → Spread C
follow_meet k f others g s i =
    let lane = slice_get f.lanes i in
    let w = lane_head lane in
    let c = k.join g (lane_cost k lane) in
    record {
      rows = follow k f g s.rows i;
      met = cond (is_relabelled k c (row_at k s.rows w)) (meet k (k.join c (row_at k others w).label) w s.met) s.met;
    }

abbrev pub follow_all_meet : {C : Type 0} → Kind C → Floor C → List (Row C) → C → Spread C → List ℕ → Spread C
follow_all_meet k f others g s [] = s
follow_all_meet k f others g s (i ∷ is) = follow_all_meet k f others g (follow_meet k f others g s i) is

-- the picked node e goes into state st, and its lanes are not followed
abbrev pub stop_at : {C : Type 0} → Kind C → State → Both C → Entry C → Both C
stop_at k st b e = record { near = record { rows = mark k st b.near.rows e.node; last = e.key }; far = b.far; met = b.met }

-- the rows and the meeting after the picked node e is scanned and its lanes out are followed by rising number
abbrev pub spread_from : {C : Type 0} → Kind C → Floor C → Both C → Entry C → Spread C
spread_from k f b e = follow_all_meet k f b.far.rows e.label (record { rows = mark k Scanned b.near.rows e.node; met = b.met }) (out_of f e.node)

abbrev pub go_from : {C : Type 0} → Kind C → Floor C → Both C → Entry C → Both C
go_from k f b e = let s = spread_from k f b e in record { near = record { rows = s.rows; last = e.key }; far = b.far; met = s.met }

-- what is done with the picked node e: it is scanned and not followed, dropped, or scanned and followed
-- f is the floor as the near side sees it, and source where the near side starts
abbrev pub settle : {C : Type 0} → Kind C → Floor C → ℕ → Both C → Entry C → Both C
settle k f source b e =
    elim (is_scanned (row_at k b.far.rows e.node).state) [
      | true ↦ stop_at k Scanned b e
      | false ↦ elim (k.at_most b.met.cost (k.join e.label (k.rest b.far.last (f.bound source e.node)))) [ true ↦ stop_at k Dropped b e | false ↦ go_from k f b e ]
    ]

abbrev pub flip : {C : Type 0} → Both C → Both C
flip b = record { near = b.far; far = b.near; met = b.met }

-- at most n turns, the near side's first; then each side has the other's turn, over the floor turned round
abbrev pub two_from : {C : Type 0} → Kind C → Floor C → ℕ → ℕ → ℕ → Both C → Both C
two_from k f source target zero b = b
two_from k f source target (suc n) b =
    elim (pick k f target (λ _. true) b.near.rows) [
      | None ↦ b
      | Some e ↦ elim (k.at_most b.met.cost e.key) [
        | true ↦ b
        | false ↦ flip (two_from k (turned f) target source n (flip (settle k f source b e)))
      ]
    ]

-- the sides have met before the first turn where they start at one node
abbrev pub first_met : {C : Type 0} → Kind C → ℕ → ℕ → Meeting C
first_met k start goal = cond (start == goal) (record { cost = k.zero; node = start }) (record { cost = k.beyond; node = 0 })

abbrev pub two_start : {C : Type 0} → Kind C → Floor C → ℕ → ℕ → Both C
two_start k f start goal = record {
  near = record { rows = start_rows k f start; last = k.zero };
  far = record { rows = start_rows k f goal; last = k.zero };
  met = first_met k start goal;
}

-- near is forward and far is backward in the result
abbrev pub two_way : {C : Type 0} → Kind C → Floor C → ℕ → ℕ → Both C
two_way k f start goal = two_from k f start goal (suc (2 * f.nodes)) (two_start k f start goal)

-- the nodes from start to m by the forward rows, and on to goal by the backward rows
abbrev pub joined : {C : Type 0} → Kind C → Floor C → ℕ → ℕ → List (Row C) → List (Row C) → ℕ → List ℕ
joined k f start goal rows back m = trace k f start rows f.nodes m (drop 1 (reverse (trace k (turned f) goal back f.nodes m [])))

abbrev pub two_route : {C : Type 0} → Kind C → Floor C → ℕ → ℕ → List ℕ
two_route k f start goal = let b = two_way k f start goal in joined k f start goal b.near.rows b.far.rows b.met.node
