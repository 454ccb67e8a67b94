-- The lanes at a node: those out of it, or those into it.
use Rattle.std.proofs.Common.{◌≡◌, ℕ, zero, suc, ◌+◌, ◌≤◌, Bool, true, false, cond, eqb, List, [], ◌∷◌, length, Some, sym, refl, ap, ◌∙◌, subst, inl, inr, arith}
use Rattle.std.specs.List.{slice_get}
use Rattle.std.proofs.lemmas.Bool.{cond_both, eq-eqb, eqb-true}
use Rattle.plant.specs.declared.lane.Lane.{Lane}
use Rattle.plant.specs.Floor.{Floor, at_from, out_of}
use Rattle.search.specs.Lists.{In}

-- lane i leads out of e
pub record Out {C : Type 0} (f : Floor C) (e : ℕ) (i : ℕ) : Type 0 where
  pub it : Lane C
  pub there : slice_get f.lanes i ≡ Some it
  pub from : it.tail ≡ e

module _ {C : Type 0} (at : Lane C → ℕ) where
  at_from_in : (ls : List (Lane C)) (start v i : ℕ) (l : Lane C) → slice_get ls i ≡ Some l → at l ≡ v → In (start + i) (at_from at start ls v)
  at_from_in [] start v i l e t = let z : ◌≡◌ {A = ℕ} 0 1 = cc in absurd (omega arith)
  at_from_in (x ∷ ls) start v zero l e t =
      let j : x ≡ l = cc in
      let same : eqb (at x) v ≡ true = eq-eqb _ _ (ap at j ∙ t) in
      let z : start + 0 ≡ start = omega arith in
      rw same (inl z)
  at_from_in (x ∷ ls) start v (suc i) l e t =
      let n : suc start + i ≡ start + suc i = omega arith in
      let ih = subst (λ m. In m (at_from at (suc start) ls v)) n (at_from_in ls (suc start) v i l e t) in
      cond_both (eqb (at x) v) (start ∷ at_from at (suc start) ls v) (at_from at (suc start) ls v) (In (start + suc i)) (λ _. inr ih) (λ _. ih)

  at_from_out : (ls : List (Lane C)) (start v j : ℕ) → In j (at_from at start ls v) → (i : ℕ) × (j ≡ start + i) × (l : Lane C) × (slice_get ls i ≡ Some l) × (at l ≡ v)
  at_from_out [] start v j h = absurd h
  at_from_out (x ∷ ls) start v j h = go (λ m. at_from_out ls (suc start) v j m) (eqb (at x) v) refl h
    where
      go : (In j (at_from at (suc start) ls v) → (i : ℕ) × (j ≡ suc start + i) × (l : Lane C) × (slice_get ls i ≡ Some l) × (at l ≡ v)) → (t : Bool) → eqb (at x) v ≡ t → In j (cond t (start ∷ at_from at (suc start) ls v) (at_from at (suc start) ls v)) → (i : ℕ) × (j ≡ start + i) × (l : Lane C) × (slice_get (x ∷ ls) i ≡ Some l) × (at l ≡ v)
      go ih true e (inl m) = (0, omega arith, x, refl, eqb-true _ _ e)
      go ih true e (inr m) = let r = ih m in (suc r.0, omega (arith, r.1), r.2, r.3, r.4)
      go ih false e m = let r = ih m in (suc r.0, omega (arith, r.1), r.2, r.3, r.4)

  at_from_le : (from v : ℕ) (ls : List (Lane C)) → length (at_from at from ls v) ≤ length ls
  at_from_le from v [] = omega arith
  at_from_le from v (l ∷ ls) = let h = at_from_le (suc from) v ls in
      cond_both (eqb (at l) v) (from ∷ at_from at (suc from) ls v) (at_from at (suc from) ls v) (λ (xs : List ℕ). length xs ≤ suc (length ls)) (λ _. omega arith) (λ _. omega arith)

pub out_of_in : {C : Type 0} (f : Floor C) (v i : ℕ) (l : Lane C) → slice_get f.lanes i ≡ Some l → l.tail ≡ v → In i (out_of f v)
out_of_in {C} f v i l e t = let z : 0 + i ≡ i = omega arith in subst (λ m. In m (out_of f v)) z (at_from_in (λ (y : Lane C). y.tail) f.lanes 0 v i l e t)

pub out_of_out : {C : Type 0} (f : Floor C) (v j : ℕ) → In j (out_of f v) → Out f v j
out_of_out {C} f v j h =
    let r = at_from_out (λ (y : Lane C). y.tail) f.lanes 0 v j h in
    let z : r.0 ≡ j = omega (arith, r.1) in
    record { it = r.2; there = ap (slice_get f.lanes) (sym z) ∙ r.3; from = r.4 }

pub out_of_le : {C : Type 0} (f : Floor C) (v : ℕ) → length (out_of f v) ≤ length f.lanes
out_of_le {C} f v = at_from_le (λ (y : Lane C). y.tail) 0 v f.lanes
