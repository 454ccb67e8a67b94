-- In a list that never falls, a number stands in one row, after all that is below it.
use Rattle.std.proofs.Common.{◌≡◌, ℕ, zero, suc, ◌+◌, ◌<◌, ◌≤◌, eqb, ltb, List, [], ◌∷◌, length, get_or, sym, refl, ◌∙◌, subst, ⊎_elim, arith}
use Rattle.std.proofs.lemmas.Bool.{cases_order, eq-eqb, ne_eqb, lt-ltb, le-ltb, cond-true, cond-false}
use Rattle.plants.specs.Index.{below, places}
use Rattle.plants.specs.Faults.{tail_before}
use Rattle.plants.proofs.Counted.{count_places}

-- each is at least low, and at least the one before
abbrev pub Rising : ℕ → List ℕ → Type 0
Rising low [] = Unit {0}
Rising low (x ∷ xs) = (low ≤ x) × Rising x xs

rising_from : (x : ℕ) (xs : List ℕ) → ((k : ℕ) → suc k < length (x ∷ xs) → get_or (x ∷ xs) k 0 ≤ get_or (x ∷ xs) (suc k) 0) → Rising x xs
rising_from x [] h = tt
rising_from x (y ∷ ys) h = (h 0 (omega arith), rising_from y ys (λ k lt. h (suc k) (omega arith)))

pub rising : (xs : List ℕ) → ((k : ℕ) → k < length xs → tail_before xs k ≤ get_or xs k 0) → Rising 0 xs
rising [] h = tt
rising (x ∷ xs) h = (omega arith, rising_from x xs (λ k lt. h (suc k) lt))

none_below : (low v : ℕ) (xs : List ℕ) → Rising low xs → v ≤ low → below v xs ≡ 0
none_below low v [] r le = refl
none_below low v (x ∷ xs) r le = cond-false (ltb x v) _ _ (le-ltb x v (omega (arith, r.0))) ∙ none_below x v xs r.1 (omega (arith, r.0))

abbrev Standing : ℕ → ℕ → List ℕ → ℕ → Type 0
Standing n j found before = j < length found → get_or found j 0 ≡ n + before + j

-- the first of a row stands at its place, and the others after it
in_row : (n j b : ℕ) (rest : List ℕ) → b ≡ 0 → ((i : ℕ) → Standing (suc n) i rest b) → Standing n j (n ∷ rest) b
in_row n zero b rest z next lt = omega arith
in_row n (suc j) b rest z next lt = let e = next j (omega arith) in omega (arith, e)

pub row_at : (low n v j : ℕ) (xs : List ℕ) → Rising low xs → Standing n j (places n xs v) (below v xs)
row_at low n v j [] r = λ lt. absurd (omega arith)
row_at low n v j (x ∷ xs) r =
    let rest = places (suc n) xs v in
    let b = below v xs in
    ⊎_elim
    (λ h.
    let e : places n (x ∷ xs) v ≡ n ∷ rest = cond-true (eqb x v) _ _ (eq-eqb x v h) in
    let f : below v (x ∷ xs) ≡ b = cond-false (ltb x v) _ _ (le-ltb x v (omega arith)) in
    subst (λ l. Standing n j l (below v (x ∷ xs))) (sym e)
    (subst (λ m. Standing n j (n ∷ rest) m) (sym f) (in_row n j b rest (none_below x v xs r.1 (omega arith)) (λ i. row_at x (suc n) v i xs r.1))))
    (⊎_elim
    (λ h.
    let e : places n (x ∷ xs) v ≡ rest = cond-false (eqb x v) _ _ (ne_eqb x v (λ s. omega arith)) in
    let f : below v (x ∷ xs) ≡ suc b = cond-true (ltb x v) _ _ (lt-ltb x v h) in
    subst (λ l. Standing n j l (below v (x ∷ xs))) (sym e)
    (subst (λ m. Standing n j rest m) (sym f) (λ lt. let s = row_at x (suc n) v j xs r.1 lt in omega (arith, s))))
    (λ h.
    let e : places n (x ∷ xs) v ≡ rest = cond-false (eqb x v) _ _ (ne_eqb x v (λ s. omega arith)) in
    subst (λ l. Standing n j l (below v (x ∷ xs))) (sym e)
    (λ lt. absurd (omega (arith, count_places (suc n) v xs, none_below x (suc v) xs r.1 h)))))
    (cases_order x v)
