-- Whether a number stands in a list, and the list without it, in the words of the library.
use Rattle.std.proofs.Common.{◌≡◌, ℕ, Bool, true, false, cond, not, eqb, ◌||◌, List, [], ◌∷◌, ◌++◌, reverse, filter, sym, refl, ap, ◌∙◌}
use Rattle.std.proofs.lemmas.List.{reverse-append}
use Rattle.std.proofs.lemmas.List.Folds.{Any-from_list_any, list_any-from_Any}
use Rattle.std.proofs.lemmas.Bool.{eq-eqb, eqb-true}
use Rattle.std.specs.Prelude.{IsTrue, Any, ◌↔◌}
use Rattle.std.specs.Cmp.{both_ways}
use Rattle.std.specs.List.{list_any}
use Rattle.plant.specs.Closed.{among, without}

pub among_any : (xs : List ℕ) (k : ℕ) → among xs k ≡ list_any (λ x. eqb x k) xs
among_any [] k = refl
among_any (x ∷ xs) k = step (eqb x k) (among_any xs k)
  where
    step : (t : Bool) → among xs k ≡ list_any (λ y. eqb y k) xs → cond t true (among xs k) ≡ (t || list_any (λ y. eqb y k) xs)
    step true e = refl
    step false e = e

pub without_filter : (k : ℕ) (xs : List ℕ) → without k xs ≡ filter (λ x. not (eqb x k)) xs
without_filter k [] = refl
without_filter k (x ∷ xs) = step (eqb x k) (without_filter k xs)
  where
    step : (t : Bool) → without k xs ≡ filter (λ y. not (eqb y k)) xs → cond t (without k xs) (x ∷ without k xs) ≡ cond (not t) (x ∷ filter (λ y. not (eqb y k)) xs) (filter (λ y. not (eqb y k)) xs)
    step true e = e
    step false e = ap (λ l. x ∷ l) e

pub among-append : (xs ys : List ℕ) (k : ℕ) → among (xs ++ ys) k ≡ cond (among xs k) true (among ys k)
among-append [] ys k = refl
among-append (x ∷ xs) ys k = step (eqb x k) (among-append xs ys k)
  where
    step : (t : Bool) → among (xs ++ ys) k ≡ cond (among xs k) true (among ys k) → cond t true (among (xs ++ ys) k) ≡ cond (cond t true (among xs k)) true (among ys k)
    step true e = refl
    step false e = e

either_way : (s t : Bool) → cond s true (cond t true false) ≡ cond t true s
either_way true true = refl
either_way true false = refl
either_way false true = refl
either_way false false = refl

reverse_cons : (x : ℕ) (xs : List ℕ) → reverse (x ∷ xs) ≡ reverse xs ++ x ∷ []
reverse_cons x xs = reverse-append (x ∷ []) xs

pub among-reverse : (xs : List ℕ) (k : ℕ) → among (reverse xs) k ≡ among xs k
among-reverse [] k = refl
among-reverse (x ∷ xs) k =
    ap (λ l. among l k) (reverse_cons x xs) ∙ among-append (reverse xs) (x ∷ []) k
    ∙ either_way (among (reverse xs) k) (eqb x k) ∙ ap (λ t. cond (eqb x k) true t) (among-reverse xs k)

-- what is true exactly if some number of the list is k, however the code finds it, says whether k stands in its reverse
pub among_told : (xs : List ℕ) (k : ℕ) (r : Bool) → (IsTrue r ↔ Any (λ x. x ≡ k) xs) → r ≡ among (reverse xs) k
among_told xs k r is =
    both_ways r (list_any (λ x. eqb x k) xs) (λ e. list_any-from_Any (λ x. eqb x k) xs (to (is.0 e))) (λ e. is.1 (from (Any-from_list_any (λ x. eqb x k) xs e)))
    ∙ sym (among-reverse xs k ∙ among_any xs k)
  where
    to : Any (λ x. x ≡ k) xs → Any (λ x. eqb x k ≡ true) xs
    to h = (h.0, h.1, h.2, h.3, eq-eqb h.1 k h.4)

    from : Any (λ x. eqb x k ≡ true) xs → Any (λ x. x ≡ k) xs
    from h = (h.0, h.1, h.2, h.3, eqb-true h.1 k h.4)

pub without-append : (k : ℕ) (xs ys : List ℕ) → without k (xs ++ ys) ≡ without k xs ++ without k ys
without-append k [] ys = refl
without-append k (x ∷ xs) ys = step (eqb x k) (without-append k xs ys)
  where
    step : (t : Bool) → without k (xs ++ ys) ≡ without k xs ++ without k ys → cond t (without k (xs ++ ys)) (x ∷ without k (xs ++ ys)) ≡ cond t (without k xs) (x ∷ without k xs) ++ without k ys
    step true e = e
    step false e = ap (λ l. x ∷ l) e

pub without-reverse : (k : ℕ) (xs : List ℕ) → without k (reverse xs) ≡ reverse (without k xs)
without-reverse k [] = refl
without-reverse k (x ∷ xs) =
    ap (without k) (reverse_cons x xs) ∙ without-append k (reverse xs) (x ∷ []) ∙ ap (λ l. l ++ without k (x ∷ [])) (without-reverse k xs) ∙ step (eqb x k)
  where
    none : (l : List ℕ) → l ++ [] ≡ l
    none [] = refl
    none (y ∷ l) = ap (λ m. y ∷ m) (none l)

    step : (t : Bool) → reverse (without k xs) ++ cond t [] (x ∷ []) ≡ reverse (cond t (without k xs) (x ∷ without k xs))
    step true = none (reverse (without k xs))
    step false = sym (reverse_cons x (without k xs))
