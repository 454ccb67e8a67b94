-- Lists of numbers: what stands in one, one without a number, and how many distinct numbers stand in one.
use Rattle.std.proofs.Common.{◌≡◌, ℕ, zero, suc, ◌<◌, ◌≤◌, Bool, true, false, cond, eqb, List, [], ◌∷◌, length, sym, refl, ap, ◌∙◌, subst, inl, inr, arith}
use Rattle.std.proofs.lemmas.Bool.{both_ways, cases_eq, cond_both, eq-eqb, eqb-false, eqb-true}
use Rattle.plant.specs.Closed.{among, without}
use Rattle.search.specs.Lists.{Distinct, In}

-- the test tells what stands in the list
pub among_in : (xs : List ℕ) (n : ℕ) → among xs n ≡ true → In n xs
among_in [] n h = absurd (both_ways false refl h)
among_in (x ∷ xs) n h = go (among_in xs n) (eqb x n) refl h
  where
    go : (among xs n ≡ true → In n xs) → (t : Bool) → eqb x n ≡ t → cond t true (among xs n) ≡ true → In n (x ∷ xs)
    go more true e j = inl (sym (eqb-true x n e))
    go more false e j = inr (more j)

pub in_among : (xs : List ℕ) (n : ℕ) → In n xs → among xs n ≡ true
in_among [] n h = absurd h
in_among (x ∷ xs) n (inl e) = ap (λ t. cond t true (among xs n)) (eq-eqb x n (sym e))
in_among (x ∷ xs) n (inr h) = cond_both (eqb x n) true (among xs n) (λ t. t ≡ true) (λ _. refl) (λ _. in_among xs n h)

pub in_without : (n : ℕ) (xs : List ℕ) (m : ℕ) → In m (without n xs) → In m xs × (m ≡ n → ⊥)
in_without n [] m h = absurd h
in_without n (x ∷ xs) m h = go (in_without n xs m) (eqb x n) refl h
  where
    go : (In m (without n xs) → In m xs × (m ≡ n → ⊥)) → (t : Bool) → eqb x n ≡ t → In m (cond t (without n xs) (x ∷ without n xs)) → In m (x ∷ xs) × (m ≡ n → ⊥)
    go more true e j = let r = more j in (inr r.0, r.1)
    go more false e (inl p) = (inl p, λ q. eqb-false x n e (sym p ∙ q))
    go more false e (inr j) = let r = more j in (inr r.0, r.1)

pub without_in : (n : ℕ) (xs : List ℕ) (m : ℕ) → In m xs → (m ≡ n → ⊥) → In m (without n xs)
without_in n [] m h d = absurd h
without_in n (x ∷ xs) m (inl p) d = cond_both (eqb x n) (without n xs) (x ∷ without n xs) (In m) (λ e. absurd (d (p ∙ eqb-true x n e))) (λ e. inl p)
without_in n (x ∷ xs) m (inr h) d = let r = without_in n xs m h d in cond_both (eqb x n) (without n xs) (x ∷ without n xs) (In m) (λ e. r) (λ e. inr r)

pub distinct_without : (n : ℕ) (xs : List ℕ) → Distinct xs → Distinct (without n xs)
distinct_without n [] h = tt
distinct_without n (x ∷ xs) h = let r = distinct_without n xs h.1 in cond_both (eqb x n) (without n xs) (x ∷ without n xs) Distinct (λ e. r) (λ e. (λ i. h.0 (in_without n xs x i).0, r))

pub length_without : (n : ℕ) (xs : List ℕ) → length (without n xs) ≤ length xs
length_without n [] = omega arith
length_without n (x ∷ xs) = let r = length_without n xs in cond_both (eqb x n) (without n xs) (x ∷ without n xs) (λ (ys : List ℕ). length ys ≤ suc (length xs)) (λ e. omega arith) (λ e. omega arith)

without_less : (n : ℕ) (xs : List ℕ) → In n xs → length (without n xs) < length xs
without_less n [] h = absurd h
without_less n (x ∷ xs) (inl e) = let r = length_without n xs in cond_both (eqb x n) (without n xs) (x ∷ without n xs) (λ (ys : List ℕ). length ys < suc (length xs)) (λ p. omega arith) (λ p. absurd (eqb-false x n p (sym e)))
without_less n (x ∷ xs) (inr h) = let r = without_less n xs h in cond_both (eqb x n) (without n xs) (x ∷ without n xs) (λ (ys : List ℕ). length ys < suc (length xs)) (λ p. omega arith) (λ p. omega arith)

-- distinct numbers that all stand in a list are no more than it has
pub no_more : (xs ys : List ℕ) → Distinct xs → ((n : ℕ) → In n xs → In n ys) → length xs ≤ length ys
no_more [] ys d s = omega arith
no_more (x ∷ xs) ys d s =
    let r = no_more xs (without x ys) d.1 (λ n i. without_in x ys n (s n (inr i)) (λ e. d.0 (subst (λ y. In y xs) e i))) in
    let q = without_less x ys (s x (inl refl)) in
    omega arith

-- the numbers below n
upto : ℕ → List ℕ
upto zero = []
upto (suc n) = n ∷ upto n

length_upto : (n : ℕ) → length (upto n) ≡ n
unfolding upto
length_upto zero = refl
length_upto (suc n) = ap suc (length_upto n)

in_upto : (n x : ℕ) → x < n → In x (upto n)
unfolding upto
in_upto zero x h = absurd (omega arith)
in_upto (suc n) x h = let more = in_upto n x in elim (cases_eq x n) [ inl e ↦ inl e | inr d ↦ inr (more (omega arith)) ]

-- distinct numbers below n are no more than n
pub no_more_below : (n : ℕ) (xs : List ℕ) → Distinct xs → ((x : ℕ) → In x xs → x < n) → length xs ≤ n
no_more_below n xs d below-n = let a = no_more xs (upto n) d (λ x i. in_upto n x (below-n x i)) in let b = length_upto n in omega arith
