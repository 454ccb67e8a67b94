-- Lists made from a function of the number.
use Rattle.std.proofs.Common.{◌≡◌, ℕ, zero, suc, ◌+◌, ◌<◌, ◌≤◌, length, Some, None, refl, ap, arith}
use Rattle.std.specs.List.{slice_get}
use Rattle.plants.specs.Index.{each}

module _ {A : Type 0} (f : ℕ → A) where
  pub each_length : (v n : ℕ) → length (each f v n) ≡ n
  each_length v zero = refl
  each_length v (suc n) = ap suc (each_length (suc v) n)

  pub each_nth : (v n i w : ℕ) → v + i ≡ w → i < n → slice_get (each f v n) i ≡ Some (f w)
  each_nth v zero i w e lt = absurd (omega arith)
  each_nth v (suc n) zero w e lt = let same : v ≡ w = omega arith in ap (λ u. Some (f u)) same
  each_nth v (suc n) (suc i) w e lt = each_nth (suc v) n i w (omega arith) (omega arith)

  pub each_past : (v n i : ℕ) → n ≤ i → slice_get (each f v n) i ≡ None
  each_past v zero i le = refl
  each_past v (suc n) zero le = absurd (omega arith)
  each_past v (suc n) (suc i) le = each_past (suc v) n i (omega arith)

  -- what stands in the list is the function at its place
  pub each_from : (v n i w : ℕ) (x : A) → v + i ≡ w → slice_get (each f v n) i ≡ Some x → (i < n) × (x ≡ f w)
  each_from v zero i w x e found = let z : ◌≡◌ {A = ℕ} 0 1 = cc in absurd (omega arith)
  each_from v (suc n) zero w x e found = let same : v ≡ w = omega arith in (omega arith, cc)
  each_from v (suc n) (suc i) w x e found = let r = each_from (suc v) n i w x (omega arith) found in (omega (arith, r.0), r.1)
