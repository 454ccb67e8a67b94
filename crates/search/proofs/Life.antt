-- The replies of a shift are right, whatever the calls.
use Rattle.std.proofs.Common.{◌≡◌, ℕ, zero, suc, ◌+◌, List, [], ◌∷◌, ◌++◌, length, take, drop, Some, sym, refl, ap, ◌∙◌, subst, append_assoc, arith}
use lib.Seq.{take-append_seam, drop-append_seam}
use Rattle.std.specs.List.{slice_get}
use Rattle.std.proofs.lemmas.List.{append-nil, drop-drop}
use Rattle.cost.specs.Kind.{Kind, Laws}
use Rattle.plant.specs.declared.lane.Lane.{Lane}
use Rattle.plant.specs.Floor.{Floor, FloorLaws}
use Rattle.plant.specs.Closed.{among, shut}
use Rattle.plant.specs.LayerFacts.{shut_none}
use Rattle.search.specs.declared.call.Call.{Call}
use Rattle.search.specs.declared.row.Row.{Row}
use Rattle.search.specs.Calls.{Reply, Event, event, past, taken, Areas}
use Rattle.search.specs.Life.{ReplyRight, Life, Held}
use Rattle.search.specs.Served.{Made, made, closed_after, served_from, served, AllMade}
use Rattle.search.proofs.Events.{taken_more}
use Rattle.search.proofs.Held.{held_none}
use Rattle.search.proofs.MadeFacts.{made_told}
use Rattle.search.proofs.Replies.{step}

module _ {C : Type 0} {k : Kind C} (laws : Laws k) {f : Floor C} (fl : FloorLaws k f) (a : Areas) where
  length_replies : (calls : List Call) (closed : List ℕ) (at : ℕ) → length (served_from k f a closed at calls).replies ≡ length calls
  length_replies [] closed at = refl
  length_replies (c ∷ calls) closed at = let m = made k f a closed at c in ap suc (length_replies calls (closed_after closed m.reply) (at + length m.nodes))

  -- the replies to the calls after the events, where the places before `at` are taken
  abbrev Lives : List Call → List (Event C) → List ℕ → List ℕ → ℕ → Type 0
  Lives calls events closed routes at =
      (rest : List ℕ) → drop at routes ≡ (served_from k f a closed at calls).routes ++ rest → (i : ℕ) (call : Call) (r : Reply C) → slice_get calls i ≡ Some call → slice_get (served_from k f a closed at calls).replies i ≡ Some r →
      ReplyRight k f a (events ++ past calls (served_from k f a closed at calls).replies i) routes call r

  -- the places that are taken after one more reply
  places : (events : List (Event C)) (closed : List ℕ) (c : Call) → let m = made k f a closed (taken events) c in taken (events ++ event c m.reply ∷ []) ≡ taken events + length m.nodes
  places events closed c = let m = made k f a closed (taken events) c in taken_more events (event c m.reply) ∙ ap (λ n. taken events + n) (made_told k f a closed (taken events) c)

  lives : (calls : List Call) (events : List (Event C)) (closed : List ℕ) → Held events closed → (routes : List ℕ) → Lives calls events closed routes (taken events)
  lives [] events closed h routes rest fit i call r p q = absurd (let z : ◌≡◌ {A = ℕ} 0 1 = cc in omega arith)
  lives (c ∷ calls) events closed h routes rest fit zero call r p q =
      let m : Made C = made k f a closed (taken events) c in
      let more : List ℕ = (served_from k f a (closed_after closed m.reply) (taken events + length m.nodes) calls).routes in
      let here : take (length m.nodes) (drop (taken events) routes) ≡ m.nodes = ap (take (length m.nodes)) (fit ∙ append_assoc m.nodes more rest) ∙ take-append_seam m.nodes (more ++ rest) in
      let e : c ≡ call = cc in
      let d : m.reply ≡ r = cc in
      subst (λ (xs : List (Event C)). ReplyRight k f a xs routes call r) (sym (append-nil events)) (subst (λ x. ReplyRight k f a events routes x r) e (subst (ReplyRight k f a events routes c) d ((step laws fl a h c).right routes here)))
  lives (c ∷ calls) events closed h routes rest fit (suc i) call r p q =
      let m : Made C = made k f a closed (taken events) c in
      let x : Event C = event c m.reply in
      let closed' : List ℕ = closed_after closed m.reply in
      let later = served_from k f a closed' (taken events + length m.nodes) calls in
      let behind : drop (taken events + length m.nodes) routes ≡ later.routes ++ rest =
      sym (drop-drop (length m.nodes) (taken events) routes) ∙ ap (drop (length m.nodes)) (fit ∙ append_assoc m.nodes later.routes rest) ∙ drop-append_seam m.nodes (later.routes ++ rest) in
      let next : Lives calls (events ++ x ∷ []) closed' routes (taken events + length m.nodes) = subst (Lives calls (events ++ x ∷ []) closed' routes) (places events closed c) (lives calls (events ++ x ∷ []) closed' (step laws fl a h c).next routes) in
      subst (λ (xs : List (Event C)). ReplyRight k f a xs routes call r) (append_assoc events (x ∷ []) (past calls later.replies i)) (next rest behind i call r p q)

  abbrev Ends : List Call → List (Event C) → List ℕ → ℕ → Type 0
  Ends calls events closed at = Held (events ++ past calls (served_from k f a closed at calls).replies (length calls)) (served_from k f a closed at calls).closed

  ends : (calls : List Call) (events : List (Event C)) (closed : List ℕ) → Held events closed → Ends calls events closed (taken events)
  ends [] events closed h = subst (λ (xs : List (Event C)). Held xs closed) (sym (append-nil events)) h
  ends (c ∷ calls) events closed h =
      let m : Made C = made k f a closed (taken events) c in
      let x : Event C = event c m.reply in
      let closed' : List ℕ = closed_after closed m.reply in
      let later = served_from k f a closed' (taken events + length m.nodes) calls in
      let next : Ends calls (events ++ x ∷ []) closed' (taken events + length m.nodes) = subst (Ends calls (events ++ x ∷ []) closed') (places events closed c) (ends calls (events ++ x ∷ []) closed' (step laws fl a h c).next) in
      subst (λ (xs : List (Event C)). Held xs later.closed) (append_assoc events (x ∷ []) (past calls later.replies (length calls))) next

  -- of a fresh shift: its replies are right, with its routes written over the front of a list
  life : (calls : List Call) (routes rest : List ℕ) → routes ≡ (served k f a calls).routes ++ rest → Life k f a calls (served k f a calls).replies routes
  life calls routes rest e = record { replied = length_replies calls [] 0; each = lives calls [] [] held_none routes rest e }

  -- and at the end it has exactly the shut lanes closed
  life_ends : (calls : List Call) → Held (past calls (served k f a calls).replies (length calls)) (served k f a calls).closed
  life_ends calls = ends calls [] [] held_none

  -- of what stands in the lists
  module _ (calls : List Call) {replies replies' : List (Reply C)} {routes routes' : List ℕ} {rows rows' back back' : List (Row C)} (m : AllMade (served k f a calls) replies replies' routes routes' rows rows' back back') where
    told : take (length calls) replies' ≡ (served k f a calls).replies
    told =
        (λ i. take (sym (length_replies calls [] 0) i) (m.replies_are i))
        ∙ take-append_seam (served k f a calls).replies (drop (length (served k f a calls).replies) replies)

    pub life_told : Life k f a calls (take (length calls) replies') routes'
    life_told = subst (λ (rs : List (Reply C)). Life k f a calls rs routes') (sym told) (life calls routes' (drop (length (served k f a calls).routes) routes) m.routes_are)

    pub ends_told : (closed : List ℕ) → closed ≡ (served k f a calls).closed → Held (past calls (take (length calls) replies') (length calls)) closed
    ends_told closed e =
        subst (Held (past calls (take (length calls) replies') (length calls))) (sym e)
        (subst (λ (rs : List (Reply C)). Held (past calls rs (length calls)) (served k f a calls).closed) (sym told) (life_ends calls))

-- the laws of a floor, from those of it with nothing shut
unshut_laws : {C : Type 0} (k : Kind C) (f : Floor C) → FloorLaws k (shut k (among []) f) → FloorLaws k f
unshut_laws {C} k f = subst (λ (ls : List (Lane C)). FloorLaws k (record { nodes = f.nodes; lanes = ls; bound = f.bound })) (shut_none k.beyond f.lanes)

-- the life of a shift that had nothing closed
pub fresh_life : {C : Type 0} {k : Kind C} {f : Floor C} {a : Areas} {calls : List Call} {closed closed' : List ℕ} {replies replies' : List (Reply C)} {routes routes' : List ℕ} {rows rows' back back' : List (Row C)} → Laws k → FloorLaws k (shut k (among closed) f) →
    AllMade (served_from k f a closed 0 calls) replies replies' routes routes' rows rows' back back' → closed' ≡ (served_from k f a closed 0 calls).closed → closed ≡ [] →
    Life k f a calls (take (length calls) replies') routes' × Held (past calls (take (length calls) replies') (length calls)) closed'
fresh_life {C} {k} {f} {a} {calls} {closed} {closed'} {replies} {replies'} {routes} {routes'} {rows} {rows'} {back} {back'} laws fl m e none = subst P (sym none) fresh fl m e
  where
    P : List ℕ → Type 0
    P xs = FloorLaws k (shut k (among xs) f) → AllMade (served_from k f a xs 0 calls) replies replies' routes routes' rows rows' back back' → closed' ≡ (served_from k f a xs 0 calls).closed →
        Life k f a calls (take (length calls) replies') routes' × Held (past calls (take (length calls) replies') (length calls)) closed'

    fresh : P []
    fresh l n c = let fl' = unshut_laws k f l in (life_told laws fl' a calls n, ends_told laws fl' a calls n closed' c)
