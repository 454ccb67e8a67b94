-- How the queue and the rows of a search hang together.
use Rattle.std.specs.Prelude.{◌≡◌, ℕ, suc, ◌+◌, ◌<◌, ◌≤◌, true, cond, ◌⊎◌, List, [], ◌∷◌, length, ◌≢◌}
use Rattle.std.specs.List.{ContainsAt}
use Rattle.cost.specs.Kind.{Kind}
use Rattle.plant.specs.declared.lane.Lane.{Lane}
use Rattle.plant.specs.Floor.{Floor}
use Rattle.queue.specs.Held.{held, count, room}
use Rattle.queue.specs.declared.heap.Queue.{Queue}
use Rattle.queue.specs.declared.ranked.Ranked.{Ghosts}
use Rattle.search.specs.declared.entry.Entry.{Entry}
use Rattle.search.specs.declared.row.Row.{Row}
use Rattle.search.specs.declared.row.State.{State}
use Rattle.search.specs.declared.row.State.TheVariants.{Labelled}
use Rattle.search.specs.Rows.{is_scanned, row_at}
use Rattle.search.specs.Steps.{ahead_of, key_of, mark}

abbrev pub entry_of : {C : Type 0} → Kind C → Floor C → ℕ → Row C → ℕ → Entry C
entry_of k f goal r v = record { key = key_of k f goal r v; label = r.label; node = v }

-- the node of the entry is still labelled, and with the entry's label
abbrev pub Live : {C : Type 0} → Kind C → List (Row C) → Entry C → Type 0
Live k rows e = ((row_at k rows e.node).state ≡ Labelled) × ((row_at k rows e.node).label ≡ e.label)

-- every entry is of a node with a row, whose label is no more than the entry's
pub record Noted {C : Type 0} (k : Kind C) (n : ℕ) (rows : List (Row C)) (es : List (Entry C)) : Type 0 where
  pub within : (e : Entry C) → ContainsAt es e → e.node < n
  pub lower : (e : Entry C) → ContainsAt es e → k.at_most (row_at k rows e.node).label e.label ≡ true

-- every labelled node has its entry, and every entry has the key of its node and label
pub record Tied {C : Type 0} (k : Kind C) (f : Floor C) (goal : ℕ) (rows : List (Row C)) (es : List (Entry C)) : Type 0 where
  pub noted : Noted k f.nodes rows es
  pub keyed : (e : Entry C) → ContainsAt es e → e.key ≡ k.join e.label (f.bound e.node goal)
  pub has : (v : ℕ) → (row_at k rows v).state ≡ Labelled → ContainsAt es (entry_of k f goal (row_at k rows v) v)

pub record Front {C : Type 0} (k : Kind C) (f : Floor C) (goal : ℕ) (rows : List (Row C)) {r : Ghosts (Entry C)} (q : Queue (Entry C) r) : Type 0 where
  pub tied : Tied k f goal rows (held q)

-- e was the first live entry of es, and es' holds the live entries that are left
pub record Next {C : Type 0} (k : Kind C) (rows : List (Row C)) (es es' : List (Entry C)) (e : Entry C) : Type 0 where
  pub here : ContainsAt es e
  pub live : Live k rows e
  pub first : (y : Entry C) → ContainsAt es y → Live k rows y → ahead_of k e y ≡ true
  pub kept : (y : Entry C) → ContainsAt es y → Live k rows y → (y ≡ e) ⊎ ContainsAt es' y
  pub back : (y : Entry C) → ContainsAt es' y → ContainsAt es y

abbrev pub NoneLive : {C : Type 0} → Kind C → List (Row C) → List (Entry C) → Type 0
NoneLive {C} k rows es = (y : Entry C) → ContainsAt es y → Live k rows y → ⊥

-- how many of the lanes leave a node that is not scanned
abbrev pub left_of : {C : Type 0} → Kind C → List (Row C) → List (Lane C) → ℕ
left_of k rows [] = 0
left_of k rows (l ∷ ls) = cond (is_scanned (row_at k rows l.tail).state) (left_of k rows ls) (suc (left_of k rows ls))

-- a side before its turn: every labelled node waits in the queue, which has room for every lane that may still be followed
pub record Ready {C : Type 0} (k : Kind C) (f : Floor C) (goal : ℕ) (rows : List (Row C)) {r : Ghosts (Entry C)} (q : Queue (Entry C) r) : Type 0 where
  pub long : length rows ≡ f.nodes
  pub front : Front k f goal rows q
  pub fits : count q + left_of k rows f.lanes ≤ room q

-- the side once the live entry e was taken out: it is ready but for the state of e's node
pub record Taken {C : Type 0} (k : Kind C) (f : Floor C) (goal : ℕ) (rows : List (Row C)) {r : Ghosts (Entry C)} (q : Queue (Entry C) r) (e : Entry C) : Type 0 where
  pub long : length rows ≡ f.nodes
  pub within : e.node < f.nodes
  pub live : Live k rows e
  pub front : (s : State) → (s ≢ Labelled) → Front k f goal (mark k s rows e.node) q
  pub fits : count q + left_of k rows f.lanes ≤ room q
