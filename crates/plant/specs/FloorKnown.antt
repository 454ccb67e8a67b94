-- A floor that is merely known to be lawful is lawful, since there is but one proof that it is.
use Rattle.std.proofs.Common.{◌≡◌, true, subst, sym, ⊎_elim}
use Rattle.std.proofs.Props.{props}
use mathlib.Core.Bool.{Bool-set}
use mathlib.Core.HLevel.{collapsible→set}
use mathlib.Core.Logic.{∥∥₁_elim}
use Rattle.cost.specs.Kind.{Kind, Laws}
use Rattle.plant.specs.Floor.{Floor, FloorLaws}

module _ {C : Type 0} {k : Kind C} (ks : Laws k) where
  -- equal costs are each at most the other
  most : (a b : C) → a ≡ b → k.at_most a b ≡ true
  most a b e = subst (λ x. k.at_most a x ≡ true) e (⊎_elim (λ h. h) (λ h. h) (ks.total a a))

  -- each equation of two costs comes from that, and so has one proof
  cost_set : IsSet C
  cost_set = collapsible→set
      (λ a b e. ks.antisym a b (most a b e) (most b a (sym e)))
      (λ a b p q i. ks.antisym a b (Bool-set _ _ (most a b p) (most a b q) i) (Bool-set _ _ (most b a (sym p)) (most b a (sym q)) i))

  laws_prop : (f : Floor C) → IsProp (FloorLaws k f)
  laws_prop f = hlevel (props, cost_set)

  pub known_laws : {f : Floor C} → ∥ FloorLaws k f ∥₁ → FloorLaws k f
  known_laws {f} h = ∥∥₁_elim h (laws_prop f) (λ laws. laws)
