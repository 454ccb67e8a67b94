-- Each reply of a shift is right, and leaves the shift with exactly the shut lanes closed.
use Rattle.std.proofs.Common.{◌≡◌, ℕ, ◌-◌, ◌<◌, Bool, true, false, cond, ltb, List, [], ◌∷◌, ◌++◌, length, take, drop, Some, None, Option, Ok, Err, sym, refl, ◌∙◌, subst, arith}
use Rattle.std.proofs.lemmas.Bool.{both_ways, ltb-true, ltb-false}
use Rattle.std.specs.Option.{option_or}
use Rattle.cost.specs.Kind.{Kind, Laws}
use Rattle.plant.specs.declared.layers.shift.ShiftFault.TheVariants.{NoLane, Closed as closed_already, Full as closed_64, Open as not_closed}
use Rattle.plant.specs.Floor.{Floor, FloorLaws}
use Rattle.plant.specs.Closed.{among, shut}
use Rattle.plant.specs.LayerFacts.{shut_laws}
use Rattle.search.specs.declared.call.Call.{Call}
use Rattle.search.specs.declared.call.Call.TheVariants.{Close, Reopen, One, Two}
use Rattle.search.specs.declared.fault.SearchFault.{SearchFault}
use Rattle.search.specs.declared.fault.SearchFault.TheVariants.{Start, Goal}
use Rattle.search.specs.declared.reply.CallFault.TheVariants.{Search, Shift}
use Rattle.search.specs.declared.reply.Done.TheVariants.{Closed, Reopened, Searched as Told}
use Rattle.search.specs.declared.row.State.TheVariants.{Scanned, Blank}
use Rattle.search.specs.Lists.{In}
use Rattle.search.specs.OneWay.{one_way, one_route}
use Rattle.search.specs.TwoWay.{two_way, two_route}
use Rattle.search.specs.Answer.{RightBoth, WorthBackward}
use Rattle.search.specs.Calls.{Event, event, taken, Areas}
use Rattle.search.specs.Moment.{Shut}
use Rattle.search.specs.Life.{counts_of, rows_forward, rows_backward, CloseRight, ReopenRight, by_route, by_none, OpenRoute, Answered, SearchRight, ReplyRight, too_short, Held}
use Rattle.search.specs.Served.{Made, plain, unless_shift, unless_search, answer, made, closed_after}
use Rattle.search.proofs.AnswerFacts.{route_when}
use Rattle.search.proofs.Answers.{one_way_right}
use Rattle.search.proofs.Held.{Mild, held_mild, held_close, held_reopen}
use Rattle.search.proofs.Moments.{shut_cost, over_beyond, moment}
use Rattle.search.proofs.Numbers.{among_in, in_among}
use Rattle.search.specs.Order.{is_beyond}
use Rattle.search.proofs.TwoAnswers.{two_way_right}

module _ {C : Type 0} {k : Kind C} (laws : Laws k) {f : Floor C} (fl : FloorLaws k f) (a : Areas) {events : List (Event C)} {closed : List ℕ} (h : Held events closed) where
  -- the part of the list of routes that a reply is about
  abbrev Written : List ℕ → List ℕ → Type 0
  Written nodes routes = take (length nodes) (drop (taken events) routes) ≡ nodes

  -- what follows from one call
  pub record Stepped (c : Call) (m : Made C) : Type 0 where
    pub right : (routes : List ℕ) → take (length m.nodes) (drop (taken events) routes) ≡ m.nodes → ReplyRight k f a events routes c m.reply
    pub next : Held (events ++ event c m.reply ∷ []) (closed_after closed m.reply)

  unshut : (n : ℕ) → among closed n ≡ false → Shut events n → ⊥
  unshut n q s = both_ways _ q (in_among closed n ((h.exactly n).1 s))

  step_close : (n : ℕ) → Stepped (Close n) (made k f a closed (taken events) (Close n))
  step_close n = go (ltb n (length f.lanes)) refl (among closed n) refl (ltb (length closed) 64) refl
    where
      go : (a : Bool) → ltb n (length f.lanes) ≡ a → (b : Bool) → among closed n ≡ b → (c : Bool) → ltb (length closed) 64 ≡ c →
          Stepped (Close n) (unless_shift (cond a (cond b (Some (closed_already n)) (cond c None (Some (closed_64 n)))) (Some (NoLane n))) (plain (Ok (Closed n))))
      go false p b q c r = record { right = λ _ _. CloseRight.lane_missing (ltb-false _ _ p) refl; next = held_mild events closed h (Close n) (Err (Shift (NoLane n))) tt }
      go true p true q c r = record { right = λ _ _. CloseRight.lane_shut (ltb-true _ _ p) ((h.exactly n).0 (among_in closed n q)) refl; next = held_mild events closed h (Close n) (Err (Shift (closed_already n))) tt }
      go true p false q false r = record {
        right = λ _ _. CloseRight.shift_full (ltb-true _ _ p) (unshut n q) (record { lanes = closed; distinct = h.distinct; each = λ m. (h.exactly m).0; full = (let x = ltb-false (length closed) 64 r in let y = h.few in omega arith) }) refl;
        next = held_mild events closed h (Close n) (Err (Shift (closed_64 n))) tt;
      }
      go true p false q true r = record {
        right = λ _ _. CloseRight.accepted (ltb-true _ _ p) (unshut n q) (record { lanes = closed; all = λ m. (h.exactly m).1; few = ltb-true (length closed) 64 r }) refl;
        next = held_close events closed h n (λ i. both_ways _ q (in_among closed n i)) (ltb-true (length closed) 64 r);
      }

  step_reopen : (n : ℕ) → Stepped (Reopen n) (made k f a closed (taken events) (Reopen n))
  step_reopen n = go (ltb n (length f.lanes)) refl (among closed n) refl
    where
      go : (a : Bool) → ltb n (length f.lanes) ≡ a → (b : Bool) → among closed n ≡ b →
          Stepped (Reopen n) (unless_shift (cond a (cond b None (Some (not_closed n))) (Some (NoLane n))) (plain (Ok (Reopened n))))
      go false p b q = record { right = λ _ _. ReopenRight.lane_missing (ltb-false _ _ p) refl; next = held_mild events closed h (Reopen n) (Err (Shift (NoLane n))) tt }
      go true p false q = record { right = λ _ _. ReopenRight.lane_open (ltb-true _ _ p) (unshut n q) refl; next = held_mild events closed h (Reopen n) (Err (Shift (not_closed n))) tt }
      go true p true q = record { right = λ _ _. ReopenRight.accepted (ltb-true _ _ p) ((h.exactly n).0 (among_in closed n q)) refl; next = held_reopen events closed h n }

  abbrev F : Floor C
  F = shut k (among closed) f

  -- a search, from what holds of its answer
  module _ (call : Call) (s t : ℕ) (c : C) (nodes : List ℕ) (facts : s < f.nodes → t < f.nodes → RightBoth k F s t c nodes (rows_forward k F call) (rows_backward k F call)) where
    -- an answer, and what is left of it where it is beyond or not
    record Replied (m : Made C) : Type 0 where
      right : (routes : List ℕ) → Written m.nodes routes → s < f.nodes → t < f.nodes → Answered k F events routes call s t m.reply
      mild : Mild m.reply

    -- an answer that is not beyond goes over open lanes
    over : (s-in : s < f.nodes) (t-in : t < f.nodes) (real : c ≡ k.beyond → ⊥) (n : ℕ) → In n ((facts s-in t-in).right.route real).lanes → Shut events n → ⊥
    over s-in t-in real n i x =
        let r = (facts s-in t-in).right.route real in
        real (sym r.costs ∙ over_beyond k laws F r.lanes n i (shut_cost k (among closed) f.lanes n (in_among closed n ((h.exactly n).1 x))))

    replied : (b : Bool) → k.at_most k.beyond c ≡ b → Replied (record { reply = Ok (Told (record { scanned = counts_of k F call; route = route_when c nodes b }) (taken events)); nodes = cond b [] nodes; near = rows_forward k F call; far = rows_backward k F call })
    replied true e = record { right = right; mild = tt }
      where
        right : (routes : List ℕ) → Written [] routes → s < f.nodes → t < f.nodes → Answered k F events routes call s t (Ok (Told (record { scanned = counts_of k F call; route = None }) (taken events)))
        right routes w s-in t-in =
            let r = facts s-in t-in in
            record { cost = c; shown = by_none (is_beyond k laws c e) refl; optimal = r.right.optimal; beyond = r.right.beyond; scans_forward = r.right.scans; scans_backward = r.scans_back }
    replied false e = record { right = right; mild = tt }
      where
        real : c ≡ k.beyond → ⊥
        real q = both_ways _ e (subst (λ x. k.at_most k.beyond x ≡ true) (sym q) (laws.beyond_greatest k.beyond))

        right : (routes : List ℕ) → Written nodes routes → s < f.nodes → t < f.nodes → Answered k F events routes call s t (Ok (Told (record { scanned = counts_of k F call; route = Some (record { cost = c; nodes = length nodes }) }) (taken events)))
        right routes w s-in t-in =
            let r = facts s-in t-in in
            record {
              cost = c;
              shown = by_route (length nodes) real (subst (OpenRoute k F events s t c) (sym w) (record { route = r.right.route real; open_lanes = over s-in t-in real })) refl;
              optimal = r.right.optimal;
              beyond = r.right.beyond;
              scans_forward = r.right.scans;
              scans_backward = r.scans_back;
            }

    record Searched (short : Option SearchFault) (m : Made C) : Type 0 where
      right : (routes : List ℕ) → Written m.nodes routes → SearchRight k f events routes call short s t m.reply
      next : Held (events ++ event call m.reply ∷ []) (closed_after closed m.reply)

    searched : (a : Bool) → ltb s f.nodes ≡ a → (b : Bool) → ltb t f.nodes ≡ b → (short : Option SearchFault) →
        Searched short (unless_search (option_or (cond a None (Some (Start s))) (option_or (cond b None (Some (Goal t))) short)) (answer k F (taken events) call c nodes))
    searched false p b q short = record { right = λ _ _. SearchRight.start_missing (ltb-false _ _ p) refl; next = held_mild events closed h call (Err (Search (Start s))) tt }
    searched true p false q short = record { right = λ _ _. SearchRight.goal_missing (ltb-true _ _ p) (ltb-false _ _ q) refl; next = held_mild events closed h call (Err (Search (Goal t))) tt }
    searched true p true q (Some x) = record { right = λ _ _. SearchRight.area_short (ltb-true _ _ p) (ltb-true _ _ q) x refl refl; next = held_mild events closed h call (Err (Search x)) tt }
    searched true p true q None =
        let r = replied (k.at_most k.beyond c) refl in
        record {
          right = λ routes w. SearchRight.accepted (ltb-true _ _ p) (ltb-true _ _ q) refl F (moment k f events closed h) (r.right routes w (ltb-true _ _ p) (ltb-true _ _ q));
          next = held_mild events closed h call (answer k F (taken events) call c nodes).reply r.mild;
        }

  under : FloorLaws k F
  under = shut_laws laws (among closed) fl

  one_both : (s t : ℕ) → s < f.nodes → t < f.nodes → RightBoth k F s t (one_way k F s t).cost (one_route k F s t) (one_way k F s t).rows []
  one_both s t s-in t-in = record { right = one_way_right laws under s-in t-in; scans_back = none }
    where
      none : (v : ℕ) → ◌≡◌ Blank Scanned → WorthBackward k F s t (one_way k F s t).cost v
      none v e = absurd (let z : ◌≡◌ {A = ℕ} 0 1 = cc in omega arith)

  pub step : (c : Call) → Stepped c (made k f a closed (taken events) c)
  step (Close n) = step_close n
  step (Reopen n) = step_reopen n
  step (One s t) =
      let r = searched (One s t) s t (one_way k F s t).cost (one_route k F s t) (one_both s t) (ltb s f.nodes) refl (ltb t f.nodes) refl (too_short f a (a.places - taken events) (One s t)) in
      record { right = r.right; next = r.next }
  step (Two s t) =
      let r = searched (Two s t) s t (two_way k F s t).met.cost (two_route k F s t) (λ p q. two_way_right laws under p q) (ltb s f.nodes) refl (ltb t f.nodes) refl (too_short f a (a.places - taken events) (Two s t)) in
      record { right = r.right; next = r.next }
