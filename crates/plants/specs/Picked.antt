-- The lanes at a node, out of lanes made by number, are a rising list that has each of them.
use Rattle.std.proofs.Common.{◌≡◌, ℕ, zero, suc, ◌+◌, ◌<◌, ◌≤◌, eqb, ◌⊎◌, List, [], ◌∷◌, sym, refl, ◌∙◌, subst, ⊎_elim, arith}
use Rattle.std.proofs.lemmas.Bool.{cases_eq, eq-eqb, ne_eqb, cond-true, cond-false}
use Rattle.plant.specs.declared.lane.Lane.{Lane}
use Rattle.plant.specs.Floor.{at_from}
use Rattle.plants.specs.Index.{each}

abbrev pub Among : ℕ → List ℕ → Type 0
Among i [] = ⊥
Among i (k ∷ ks) = (i ≡ k) ⊎ Among i ks

-- the numbers rise, from low on and below the end, and f is v at each
abbrev pub Listed : (ℕ → ℕ) → ℕ → ℕ → ℕ → List ℕ → Type 0
Listed f v low end [] = Unit {0}
Listed f v low end (k ∷ ks) = (low ≤ k) × (k < end) × (f k ≡ v) × Listed f v (suc k) end ks

not_below : (f : ℕ → ℕ) (v low end i : ℕ) (ks : List ℕ) → Listed f v low end ks → Among i ks → low ≤ i
not_below f v low end i [] listed here = absurd here
not_below f v low end i (k ∷ ks) listed here =
    ⊎_elim
    (λ (e : i ≡ k). let from = listed.0 in omega arith)
    (λ (later : Among i ks). let from = listed.0 in let past = not_below f v (suc k) end i ks listed.3 later in omega arith)
    here

later_one : (i k : ℕ) (ks : List ℕ) → k < i → Among i (k ∷ ks) → Among i ks
later_one i k ks lt here = ⊎_elim (λ (e : i ≡ k). absurd (omega arith)) (λ (a : Among i ks). a) here

module _ {C : Type 0} (at : Lane C → ℕ) (lane : ℕ → Lane C) (v end : ℕ) where
  abbrev AtV : ℕ → List ℕ → Type 0
  AtV low ks = Listed (λ k. at (lane k)) v low end ks

  abbrev HasAll : ℕ → List ℕ → Type 0
  HasAll low ks = (i : ℕ) → low ≤ i → i < end → at (lane i) ≡ v → Among i ks

  pub picked : (low n : ℕ) (ks : List ℕ) → low + n ≡ end → AtV low ks → HasAll low ks → at_from at low (each lane low n) v ≡ ks
  picked low zero [] e listed all = refl
  picked low zero (k ∷ ks) e listed all = let from = listed.0 in let to = listed.1 in absurd (omega arith)
  picked low (suc n) [] e listed all =
      cond-false (eqb (at (lane low)) v) _ _ (ne_eqb _ _ (λ h. all low (omega arith) (omega arith) h))
      ∙ picked (suc low) n [] (omega arith) tt (λ i a b h. all i (omega arith) b h)
  picked low (suc n) (k ∷ ks) e listed all =
      ⊎_elim
      (λ (same : k ≡ low).
      let rest = picked (suc low) n ks (omega arith) (subst (λ u. AtV (suc u) ks) same listed.3) (λ i a b h. later_one i k ks (omega arith) (all i (omega arith) b h)) in
      cond-true (eqb (at (lane low)) v) _ _ (eq-eqb _ _ (subst (λ u. at (lane u) ≡ v) same listed.2)) ∙ (λ i. sym same i ∷ rest i))
      (λ (other : k ≡ low → ⊥).
      let from = listed.0 in
      let past : low < k = omega arith in
      let later : AtV (suc low) (k ∷ ks) = (past, listed.1, listed.2, listed.3) in
      cond-false (eqb (at (lane low)) v) _ _
      (ne_eqb _ _ (λ h. let in_List = not_below _ v (suc low) end low (k ∷ ks) later (all low (omega arith) (omega arith) h) in omega arith))
      ∙ picked (suc low) n (k ∷ ks) (omega arith) later (λ i a b h. all i (omega arith) b h))
      (cases_eq k low)
