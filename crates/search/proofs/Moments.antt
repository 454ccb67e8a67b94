-- The floor under the shift is the floor at the moment, and no walk below beyond goes over a shut lane.
use Rattle.std.proofs.Common.{◌≡◌, ℕ, zero, suc, Bool, true, false, cond, List, [], ◌∷◌, sym, refl, ap, ◌∙◌, inl, inr}
use Rattle.std.specs.List.{slice_get}
use Rattle.cost.specs.Kind.{Kind, Laws}
use Rattle.plant.specs.declared.lane.Lane.{Lane}
use Rattle.plant.specs.Floor.{Floor}
use Rattle.plant.specs.Walk.{walk_cost, lane_cost}
use Rattle.plant.specs.Closed.{among, shut_lane, shut_lanes, shut}
use Rattle.plant.specs.LayerFacts.{over, nth-shut, length-shut}
use Rattle.search.specs.Lists.{In}
use Rattle.search.specs.Calls.{Event}
use Rattle.search.specs.Moment.{Shut, Moment}
use Rattle.search.specs.Life.{Held}
use Rattle.search.proofs.Numbers.{among_in, in_among}
use Rattle.search.specs.Order.{beyond_join}

-- a lane that is shut costs beyond
pub shut_cost : {C : Type 0} (k : Kind C) (is : ℕ → Bool) (ls : List (Lane C)) (i : ℕ) → is i ≡ true → lane_cost k (slice_get (shut_lanes k.beyond is ls) i) ≡ k.beyond
shut_cost k is [] i e = refl
shut_cost k is (l ∷ ls) zero e = ap (λ t. cond t k.beyond l.cost) e
shut_cost k is (l ∷ ls) (suc i) e = shut_cost k (λ j. is (suc j)) ls i e

-- a walk over a lane that costs beyond costs beyond
pub over_beyond : {C : Type 0} (k : Kind C) → Laws k → (F : Floor C) (is : List ℕ) (n : ℕ) → In n is → lane_cost k (slice_get F.lanes n) ≡ k.beyond → walk_cost k F is ≡ k.beyond
over_beyond k laws F [] n h e = absurd h
over_beyond k laws F (i ∷ is) n (inl p) e = ap (λ x. k.join x (walk_cost k F is)) (ap (λ j. lane_cost k (slice_get F.lanes j)) (sym p) ∙ e) ∙ beyond_join k laws _
over_beyond k laws F (i ∷ is) n (inr h) e = ap (k.join (lane_cost k (slice_get F.lanes i))) (over_beyond k laws F is n h e) ∙ (laws.join_comm _ _ ∙ beyond_join k laws _)

module _ {C : Type 0} (k : Kind C) (f : Floor C) (events : List (Event C)) (closed : List ℕ) (h : Held events closed) where
  pub moment : Moment k f events (shut k (among closed) f)
  moment = record {
    nodes = refl;
    bounds = λ v w. refl;
    count = length-shut k.beyond (among closed) f.lanes;
    when_shut = λ n l e s. nth-shut k.beyond (among closed) f.lanes n ∙ (λ i. over (shut_lane k.beyond (in_among closed n ((h.exactly n).1 s) i)) (e i));
    when_open = λ n l e o. nth-shut k.beyond (among closed) f.lanes n ∙ (λ i. over (shut_lane k.beyond (unlisted n o (among closed n) refl i)) (e i));
  }
    where
      unlisted : (n : ℕ) → (Shut events n → ⊥) → (t : Bool) → among closed n ≡ t → among closed n ≡ false
      unlisted n o true e = absurd (o ((h.exactly n).0 (among_in closed n e)))
      unlisted n o false e = e
