-- Floors with some lanes closed: a closed lane costs beyond, and all else is as below.
use Rattle.std.specs.Prelude.{ℕ, suc, Bool, true, false, cond, List, [], ◌∷◌, ◌==◌}
use Rattle.cost.specs.Kind.{Kind}
use Rattle.plant.specs.declared.lane.Lane.{Lane}
use Rattle.plant.specs.Floor.{Floor}

-- whether n stands in the list
abbrev pub among : List ℕ → ℕ → Bool
among [] n = false
among (x ∷ xs) n = cond (x == n) true (among xs n)

-- the list without n
abbrev pub without : ℕ → List ℕ → List ℕ
without n [] = []
without n (x ∷ xs) = cond (x == n) (without n xs) (x ∷ without n xs)

abbrev pub shut_lane : {C : Type 0} → C → Bool → Lane C → Lane C
shut_lane b t l = record { tail = l.tail; head = l.head; cost = cond t b l.cost }

-- the lanes, those that are shut, by number, at the cost b
abbrev pub shut_lanes : {C : Type 0} → C → (ℕ → Bool) → List (Lane C) → List (Lane C)
shut_lanes b is [] = []
shut_lanes b is (l ∷ ls) = shut_lane b (is 0) l ∷ shut_lanes b (λ i. is (suc i)) ls

-- the floor with the lanes closed of which `is` says so
abbrev pub shut : {C : Type 0} → Kind C → (ℕ → Bool) → Floor C → Floor C
shut k is f = record { nodes = f.nodes; lanes = shut_lanes k.beyond is f.lanes; bound = f.bound }
