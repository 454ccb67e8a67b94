-- What follows where a test of a call finds no fault, and which of two faults comes first.
use Rattle.std.proofs.Common.{◌≡◌, ℕ, ◌<◌, ◌≤◌, Bool, true, false, cond, ltb, Some, None, Option, refl, arith}
use Rattle.std.proofs.lemmas.Bool.{ltb-true, ltb-false}
use Rattle.std.specs.Option.{option_or}
use Rattle.plant.specs.Floor.{Floor}
use Rattle.search.specs.declared.fault.SearchFault.{SearchFault}
use Rattle.search.specs.Faults.{node_fault, room_fault}

module _ {C : Type 0} (f : Floor C) where
  pub node_in : (v : ℕ) (x : SearchFault) → None ≡ node_fault f v x → v < f.nodes
  node_in v x e = go (ltb v f.nodes) refl e
    where
      go : (b : Bool) → ltb v f.nodes ≡ b → None ≡ cond b None (Some x) → v < f.nodes
      go true q h = ltb-true _ _ q
      go false q h = absurd (let z : ◌≡◌ {A = ℕ} 0 1 = cc in omega arith)

  pub room_in : (n : ℕ) (x : SearchFault) → None ≡ room_fault f n x → f.nodes ≤ n
  room_in n x e = go (ltb n f.nodes) refl e
    where
      go : (b : Bool) → ltb n f.nodes ≡ b → None ≡ cond b (Some x) None → f.nodes ≤ n
      go true q h = absurd (let z : ◌≡◌ {A = ℕ} 0 1 = cc in omega arith)
      go false q h = ltb-false _ _ q

-- of two tests, neither finds a fault
pub both_none : {X : Type 0} (a b : Option X) → None ≡ option_or a b → (None ≡ a) × (None ≡ b)
both_none None b e = (refl, e)
both_none (Some x) b e = absurd (let z : ◌≡◌ {A = ℕ} 0 1 = cc in omega arith)
