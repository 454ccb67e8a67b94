-- A text is accepted exactly when it begins with what the writer writes for some lawful plant, and that plant is read.
use Rattle.std.proofs.Common.{◌≡◌, ℕ, true, ◌↔◌, List, ◌++◌, sym, refl, ◌∙◌, subst}
use Rattle.format.specs.Plain.{Plain, Lawful}
use Rattle.format.specs.Written.{written}
use Rattle.format.specs.Turns.{got}
use Rattle.format.specs.Checks.{Room, has_room}
use Rattle.format.specs.Read.{read}
use Rattle.format.proofs.Accepts.{written_is_read}
use Rattle.format.proofs.AcceptsOnly.{read_is_written}

pub accepted_exactly : (room : Room) (t : List ℕ) (p : Plain) (rest : List ℕ) → (read room t ≡ got p rest) ↔ (Lawful p × (has_room room p ≡ true) × (t ≡ written p ++ rest))
accepted_exactly room t p rest =
    (read_is_written room t p rest, λ h. subst (λ u. read room u ≡ got p rest) (sym h.2) (written_is_read room p rest h.0 h.1))

-- one text is not the writer's for two plants
pub written_once : (p q : Plain) (r s : List ℕ) → Lawful p → Lawful q → written p ++ r ≡ written q ++ s → (p ≡ q) × (r ≡ s)
written_once p q r s hp hq e =
    let a = written_is_read (λ _ _ _. true) p r hp refl in
    let b = subst (λ u. read (λ _ _ _. true) u ≡ got q s) (sym e) (written_is_read (λ _ _ _. true) q s hq refl) in
    let c : got p r ≡ got q s = sym a ∙ b in
    (cc, cc)
