-- The first number that fails a test, by what holds of it and of those before it.
use Rattle.std.proofs.Common.{◌≡◌, ℕ, zero, suc, ◌+◌, ◌<◌, ◌≤◌, Bool, true, false, MatchOption, Some, None, Option, sym, refl, ap, ◌∙◌, ⊎_elim, arith}
use Rattle.std.proofs.lemmas.Bool.{cases_Bool, cases_eq, cond-true, cond-false}
use Rattle.plants.specs.Faults.{first_failing}

all_pass : (fits : ℕ → Bool) (k n : ℕ) → ((i : ℕ) → k ≤ i → i < k + n → fits i ≡ true) → first_failing fits k n ≡ None
all_pass fits k zero each = refl
all_pass fits k (suc n) each =
    cond-true (fits k) _ _ (each k (omega arith) (omega arith)) ∙ all_pass fits (suc k) n (λ i a b. each i (omega arith) (omega arith))

first_is : (fits : ℕ → Bool) (k n i : ℕ) → k ≤ i → i < k + n → fits i ≡ false → ((j : ℕ) → k ≤ j → j < i → fits j ≡ true) → first_failing fits k n ≡ Some i
first_is fits k zero i low high fails before = absurd (omega arith)
first_is fits k (suc n) i low high fails before =
    ⊎_elim
    (λ (here : k ≡ i). cond-false (fits k) _ _ (ap fits here ∙ fails) ∙ ap Some here)
    (λ (later : k ≡ i → ⊥). cond-true (fits k) _ _ (before k (omega arith) (omega arith)) ∙ first_is fits (suc k) n i (omega arith) (omega arith) fails (λ j a b. before j (omega arith) b))
    (cases_eq k i)

-- what a search of the numbers below n finds
pub found : (fits : ℕ → Bool) (n : ℕ) (r : Option ℕ) → MatchOption r ((k : ℕ) → 0 ≤ k → k < n → k < n → fits k ≡ true) (λ i. (0 ≤ i) × (i < n) × (i < n → fits i ≡ false) × ((k : ℕ) → 0 ≤ k → k < i → k < n → fits k ≡ true)) → r ≡ first_failing fits 0 n
found fits n None each = sym (all_pass fits 0 n (λ i a b. each i (omega arith) (omega arith) (omega arith)))
found fits n (Some i) is = sym (first_is fits 0 n i (omega arith) (omega arith) (is.2 is.1) (λ j a b. is.3 j (omega arith) b (omega arith)))

-- where the walk stops nowhere, every number passes
pub none_fails : (fits : ℕ → Bool) (k n i : ℕ) → first_failing fits k n ≡ None → k ≤ i → i < k + n → fits i ≡ true
none_fails fits k zero i e le lt = absurd (omega arith)
none_fails fits k (suc n) i e le lt =
    ⊎_elim
    (λ passes. ⊎_elim
    (λ (here : k ≡ i). ap fits (sym here) ∙ passes)
    (λ (later : k ≡ i → ⊥). none_fails fits (suc k) n i (sym (cond-true (fits k) _ _ passes) ∙ e) (omega arith) (omega arith))
    (cases_eq k i))
    (λ fails. absurd (let h : Some k ≡ None = sym (cond-false (fits k) (first_failing fits (suc k) n) (Some k) fails) ∙ e in let z : ◌≡◌ {A = ℕ} 0 1 = cc in omega arith))
    (cases_Bool (fits k))
