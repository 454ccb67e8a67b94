-- Lists: what stands in one, that none stands twice, and a list written over another.
use Rattle.std.specs.Prelude.{◌≡◌, ℕ, ◌⊎◌, List, [], ◌∷◌, ◌++◌, length, take, drop}

-- x stands in the list
abbrev pub In : ℕ → List ℕ → Type 0
In x [] = ⊥
In x (y ∷ ys) = (x ≡ y) ⊎ In x ys

-- no number stands twice
abbrev pub Distinct : List ℕ → Type 0
Distinct [] = Unit {0}
Distinct (x ∷ xs) = (In x xs → ⊥) × Distinct xs

-- the list `old` with its first entries overwritten by `new`
abbrev pub onto : {A : Type 0} → List A → List A → List A
onto new old = new ++ drop (length new) old

-- the list `old` with its entries from `at` on overwritten by `new`
abbrev pub onto_at : {A : Type 0} → ℕ → List A → List A → List A
onto_at at new old = take at old ++ onto new (drop at old)
