-- A node's label, state, key and entry in the rows.
use Rattle.std.proofs.Common.{ℕ, List}
use Rattle.cost.specs.Kind.{Kind}
use Rattle.plant.specs.Floor.{Floor}
use Rattle.search.specs.declared.entry.Entry.{Entry}
use Rattle.search.specs.declared.row.Row.{Row}
use Rattle.search.specs.declared.row.State.{State}
use Rattle.search.specs.Rows.{row_at}
use Rattle.search.specs.Steps.{key_of}
use Rattle.search.specs.Ties.{entry_of}

abbrev pub label_at : {C : Type 0} → Kind C → List (Row C) → ℕ → C
label_at k rows v = (row_at k rows v).label

abbrev pub state_at : {C : Type 0} → Kind C → List (Row C) → ℕ → State
state_at k rows v = (row_at k rows v).state

-- towards t
abbrev pub key_at : {C : Type 0} → Kind C → Floor C → ℕ → List (Row C) → ℕ → C
key_at k f t rows v = key_of k f t (row_at k rows v) v

abbrev pub entry_at : {C : Type 0} → Kind C → Floor C → ℕ → List (Row C) → ℕ → Entry C
entry_at k f t rows v = entry_of k f t (row_at k rows v) v
