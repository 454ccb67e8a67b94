-- What one more event does to the lanes that are shut and to the places that are taken.
use Rattle.std.proofs.Common.{◌≡◌, ℕ, zero, suc, ◌+◌, ◌<◌, ◌⊎◌, List, [], ◌∷◌, ◌++◌, length, Some, sym, refl, ap, subst, inl, inr, arith}
use Rattle.std.specs.List.{slice_get}
use Rattle.search.specs.Calls.{Event, nodes_told, taken}
use Rattle.search.specs.Moment.{Closes, Reopens, Shut}
use Rattle.search.proofs.RowFacts.{nth_within}

-- the list with one more at its end
pub nth_old : {X : Type 0} (xs : List X) (y : X) (i : ℕ) (x : X) → slice_get xs i ≡ Some x → slice_get (xs ++ y ∷ []) i ≡ Some x
nth_old [] y i x e = absurd (let z : ◌≡◌ {A = ℕ} 0 1 = cc in omega arith)
nth_old (z ∷ xs) y zero x e = e
nth_old (z ∷ xs) y (suc i) x e = nth_old xs y i x e

pub nth_new : {X : Type 0} (xs : List X) (y : X) → slice_get (xs ++ y ∷ []) (length xs) ≡ Some y
nth_new [] y = refl
nth_new (z ∷ xs) y = nth_new xs y

pub nth_either : {X : Type 0} (xs : List X) (y : X) (i : ℕ) (x : X) → slice_get (xs ++ y ∷ []) i ≡ Some x → (slice_get xs i ≡ Some x) ⊎ ((i ≡ length xs) × (y ≡ x))
nth_either [] y zero x e = let p : y ≡ x = cc in inr (refl, p)
nth_either [] y (suc i) x e = absurd (let z : ◌≡◌ {A = ℕ} 0 1 = cc in omega arith)
nth_either (z ∷ xs) y zero x e = inl e
nth_either (z ∷ xs) y (suc i) x e = elim (nth_either xs y i x e) [ inl h ↦ inl h | inr (p, q) ↦ inr (ap suc p, q) ]

module _ {C : Type 0} (events : List (Event C)) (x : Event C) (n : ℕ) where
  -- a lane that the event closes is shut
  pub shut_new : Closes x n → Shut (events ++ x ∷ []) n
  shut_new c = record { at = length events; event = x; there = nth_new events x; closes = c; last = last }
    where
      last : (i : ℕ) (e : Event C) → length events < i → slice_get (events ++ x ∷ []) i ≡ Some e → Closes e n ⊎ Reopens e n → ⊥
      last i e h d t = elim (nth_either events x i e d) [ inl o ↦ (let w = nth_within events i e o in omega arith) | inr (p, q) ↦ omega arith ]

  -- a lane that was shut, and that the event neither closes nor reopens, is shut
  pub shut_old : Shut events n → (Closes x n ⊎ Reopens x n → ⊥) → Shut (events ++ x ∷ []) n
  shut_old s quiet = record { at = s.at; event = s.event; there = nth_old events x s.at s.event s.there; closes = s.closes; last = last }
    where
      last : (i : ℕ) (e : Event C) → s.at < i → slice_get (events ++ x ∷ []) i ≡ Some e → Closes e n ⊎ Reopens e n → ⊥
      last i e h d t = elim (nth_either events x i e d) [ inl o ↦ s.last i e h o t | inr (p, q) ↦ quiet (subst (λ (y : Event C). Closes y n ⊎ Reopens y n) (sym q) t) ]

  -- there is no other way to be shut
  pub shut_was : Shut (events ++ x ∷ []) n → Closes x n ⊎ (Shut events n × (Reopens x n → ⊥))
  shut_was s = elim (nth_either events x s.at s.event s.there) [
    | inl o ↦ inr (record { at = s.at; event = s.event; there = o; closes = s.closes; last = λ i e h d t. s.last i e h (nth_old events x i e d) t }, λ r. s.last (length events) x (nth_within events s.at s.event o) (nth_new events x) (inr r))
    | inr (p, q) ↦ inl (subst (λ (y : Event C). Closes y n) (sym q) s.closes)
  ]

pub taken_more : {C : Type 0} (events : List (Event C)) (x : Event C) → taken (events ++ x ∷ []) ≡ taken events + nodes_told x.reply
taken_more [] x = omega arith
taken_more (e ∷ events) x = let r = taken_more events x in omega arith
