-- Tests in a row: the first that fails names the fault, and one that passes leaves it to the next.
use Rattle.std.proofs.Common.{◌≡◌, ℕ, Bool, true, false, cond, IsErrAnd, Some, None, Option, Result, refl, ap, ◌∙◌, arith}
use Rattle.std.specs.Result.{result_err}
use Rattle.std.proofs.lemmas.Result.{err_from_is_err_and}
use Rattle.plants.specs.declared.fault.PlantFault.{PlantFault}
use Rattle.plants.specs.Faults.{or_else}

pub test_passed : (b : Bool) (next : Option PlantFault) (f : PlantFault) → None ≡ cond b next (Some f) → (b ≡ true) × (None ≡ next)
test_passed true next f h = (refl, h)
test_passed false next f h = absurd (let z : ◌≡◌ {A = ℕ} 0 1 = cc in omega arith)

pub walk_named : (fault : ℕ → PlantFault) (o : Option ℕ) (e : PlantFault) (next : Option PlantFault) → Some e ≡ or_else fault o None → Some e ≡ or_else fault o next
walk_named fault None e next h = absurd (let z : ◌≡◌ {A = ℕ} 0 1 = cc in omega arith)
walk_named fault (Some k) e next h = h

pub walk_passes : (fault : ℕ → PlantFault) (o : Option ℕ) → None ≡ or_else fault o None → o ≡ None
walk_passes fault None h = refl
walk_passes fault (Some k) h = absurd (let z : ◌≡◌ {A = ℕ} 0 1 = cc in omega arith)

-- what the exit of a `?` returns
pub exit_tells : (r : Result (Unit {0}) PlantFault) (e : PlantFault) (o : Option PlantFault) → IsErrAnd r (λ (y : PlantFault). y ≡ e) → Some e ≡ o → result_err r ≡ o
exit_tells r e o by h = let p = err_from_is_err_and r by in ap result_err p.1 ∙ ap Some p.2 ∙ h
