-- The plant file that the writer writes of a plant.
use Rattle.std.specs.Prelude.{ℕ, cond, List, [], ◌∷◌, ◌++◌, length, codes, decimal, ◌==◌}
use Rattle.format.specs.Plain.{Plain, Lane, Mark, beyond}

-- a value of a table: `-` for beyond
abbrev pub value_text : ℕ → List ℕ
value_text x = cond (x == beyond) (codes "-") (decimal x)

-- each value after a space
abbrev pub values_text : List ℕ → List ℕ
values_text [] = []
values_text (x ∷ xs) = codes " " ++ (value_text x ++ values_text xs)

-- (plant NODES LANES LANDMARKS)
abbrev pub plant_line : ℕ → ℕ → ℕ → List ℕ
plant_line n l m =
    codes "(plant " ++ (decimal n ++ (codes " " ++ (decimal l ++ (codes " " ++ (decimal m ++ codes ")\n")))))

-- (lane TAIL HEAD COST)
abbrev pub lane_line : Lane → List ℕ
lane_line l =
    codes "(lane " ++ (decimal l.tail ++ (codes " " ++ (decimal l.head ++ (codes " " ++ (decimal l.cost ++ codes ")\n")))))

-- (mark (to X…) (from X…))
abbrev pub mark_line : Mark → List ℕ
mark_line m =
    codes "(mark (to" ++ (values_text m.to ++
    (codes ") (from" ++ (values_text m.from ++ codes "))\n")))

-- line after line
abbrev pub texts : {A : Type 0} → (A → List ℕ) → List A → List ℕ
texts f [] = []
texts f (x ∷ xs) = f x ++ texts f xs

unfoldable pub written : Plain → List ℕ
written p = plant_line p.nodes (length p.lanes) (length p.marks) ++ (texts lane_line p.lanes ++ texts mark_line p.marks)
