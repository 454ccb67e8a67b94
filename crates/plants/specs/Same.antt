-- Whether two lists are the same.
use Rattle.std.proofs.Common.{◌≡◌, ℕ, Bool, true, false, ◌&&◌, eqb, List, [], ◌∷◌, refl, ap, ◌∙◌, subst}
use Rattle.std.proofs.lemmas.Bool.{eq-eqb, eqb-true, and_parts, and_from, both_ways}
use Rattle.std.specs.Cmp.Lexicographic.{pointwise}
use Rattle.plants.specs.Faults.{same}

-- `==` on slices
pub pointwise_same : (xs ys : List ℕ) → pointwise eqb xs ys ≡ same xs ys
pointwise_same [] [] = refl
pointwise_same [] (y ∷ ys) = refl
pointwise_same (x ∷ xs) [] = refl
pointwise_same (x ∷ xs) (y ∷ ys) = ap (λ (b : Bool). eqb x y && b) (pointwise_same xs ys)

-- a list compared with one that is another
pub compared : (b : Bool) (xs ys zs : List ℕ) → b ≡ pointwise eqb xs ys → ys ≡ zs → b ≡ same xs zs
compared b xs ys zs e is = e ∙ pointwise_same xs ys ∙ ap (same xs) is

pub same_true : (xs ys : List ℕ) → same xs ys ≡ true → xs ≡ ys
same_true [] [] e = refl
same_true [] (y ∷ ys) e = absurd (both_ways false refl e)
same_true (x ∷ xs) [] e = absurd (both_ways false refl e)
same_true (x ∷ xs) (y ∷ ys) e =
    let p = and_parts (eqb x y) (same xs ys) e in
    let h : x ≡ y = eqb-true x y p.0 in
    let t : xs ≡ ys = same_true xs ys p.1 in
    cc

pub same_refl : (xs : List ℕ) → same xs xs ≡ true
same_refl [] = refl
same_refl (x ∷ xs) = and_from (eqb x x) (same xs xs) (eq-eqb x x refl) (same_refl xs)

pub same_from : (xs ys : List ℕ) → xs ≡ ys → same xs ys ≡ true
same_from xs ys e = subst (λ (zs : List ℕ). same xs zs ≡ true) e (same_refl xs)

pub same_differs : (xs ys : List ℕ) → (xs ≡ ys → ⊥) → same xs ys ≡ false
same_differs xs ys ne = go (same xs ys) (λ e. ne (same_true xs ys e)) where
  go : (b : Bool) → (b ≡ true → ⊥) → b ≡ false
  go true h = absurd (h refl)
  go false h = refl
