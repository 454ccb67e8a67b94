-- What one turn of a side comes to. The side's own last key, x, plays no role in it.
use Rattle.std.specs.Prelude.{◌≡◌, ℕ, suc, ◌<◌, List}
use Rattle.cost.specs.Kind.{Kind}
use Rattle.plant.specs.Floor.{Floor, turned}
use Rattle.queue.specs.declared.heap.Queue.{Queue}
use Rattle.queue.specs.declared.ranked.Ranked.{Ghosts}
use Rattle.search.specs.declared.entry.Entry.{Entry}
use Rattle.search.specs.declared.meeting.Meeting.{Meeting}
use Rattle.search.specs.declared.row.Row.{Row}
use Rattle.search.specs.Ties.{Ready}
use Rattle.search.specs.TwoWay.{both_of, settle, flip, two_from}

-- the picked node e is settled
abbrev pub Settles : {C : Type 0} → Kind C → Floor C → ℕ → List (Row C) → List (Row C) → List (Row C) → C → Entry C → Meeting C → Meeting C → Type 0
Settles {C} k f source rows rows' others last e met met' = (x : C) → settle k f source (both_of rows x others last met) e ≡ both_of rows' e.key others last met'

-- there is no turn: the search has ended
abbrev pub Stays : {C : Type 0} → Kind C → Floor C → ℕ → ℕ → List (Row C) → List (Row C) → C → Meeting C → Type 0
Stays {C} k f source target rows others last met = (n : ℕ) (x : C) → two_from k f source target (suc n) (both_of rows x others last met) ≡ both_of rows x others last met

-- the turn is taken, with the key y, and it is the other side's turn
abbrev pub Goes : {C : Type 0} → Kind C → Floor C → ℕ → ℕ → List (Row C) → List (Row C) → List (Row C) → C → Meeting C → C → Meeting C → Type 0
Goes {C} k f source target rows rows' others last met y met' = (n : ℕ) (x : C) →
    two_from k f source target (suc n) (both_of rows x others last met) ≡ flip (two_from k (turned f) target source n (flip (both_of rows' y others last met')))

-- the side after a turn that was taken
pub record Gone {C : Type 0} (k : Kind C) (f : Floor C) (source target : ℕ) (rows rows' others : List (Row C)) (last : C) (met : Meeting C) (y : C) (met' : Meeting C) {r : Ghosts (Entry C)} (q' : Queue (Entry C) r) : Type 0 where
  pub goes : Goes k f source target rows rows' others last met y met'
  pub within : met'.node < f.nodes
  pub ready : Ready k f target rows' q'
