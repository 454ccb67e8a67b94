-- What the exits of a function say of the call before them.
use Rattle.std.proofs.Common.{◌≡◌, ℕ, IsErrAnd, Some, None, Err, Option, Result, refl, ap, ◌∙◌, arith}
use Rattle.std.specs.Option.{ok_or}
use Rattle.std.specs.Result.{result_err}
use Rattle.std.proofs.lemmas.Result.{err_from_is_err_and}
use Rattle.plants.specs.declared.fault.PlantFault.{PlantFault}

pub err_same : {A E : Type 0} (x y : E) → ◌≡◌ {A = Result A E} (Err x) (Err y) → x ≡ y
err_same x y e = cc

-- an answer that was none, as an error
pub or_err : {A E : Type 0} (r : Option A) (x y : E) → ◌≡◌ {A = Result A E} (Err x) (ok_or r y) → (r ≡ None) × (x ≡ y)
or_err {A = A} None x y e = (refl, err_same {A = A} x y e)
or_err (Some a) x y e = absurd (let z : ◌≡◌ {A = ℕ} 0 1 = cc in omega arith)

-- an answer that is no value
pub none_from : {A : Type 0} (r : Option A) → ((a : A) → r ≡ Some a → ⊥) → r ≡ None
none_from None h = refl
none_from (Some a) h = absurd (h a refl)

-- what the exit of a `?` in a test returns
pub exit_tells : (r : Result (Unit {0}) PlantFault) (e : PlantFault) (o : Option PlantFault) → IsErrAnd r (λ (y : PlantFault). y ≡ e) → Some e ≡ o → result_err r ≡ o
exit_tells r e o by h = let p = err_from_is_err_and r by in ap result_err p.1 ∙ (ap Some p.2 ∙ h)
