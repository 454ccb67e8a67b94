-- The two-way search answers with the least cost, and scans only nodes that are worth it, from either end.
use Rattle.std.proofs.Common.{◌≡◌, ℕ, ◌<◌, ◌≤◌, ◌⊎◌, length, sym, refl, subst, inl, inr}
use Rattle.cost.specs.Kind.{Kind, Laws}
use Rattle.plant.specs.Floor.{Floor, FloorLaws}
use Rattle.plant.specs.Walk.{Least, NoneBelow}
use Rattle.search.specs.Answer.{RightBoth, WorthBackward}
use Rattle.search.specs.TwoWay.{two_route, two_way}
use Rattle.search.proofs.Answers.{beyond_all, under_least, worth_forward}
use Rattle.search.proofs.At.{label_at}
use Rattle.search.proofs.LeastCosts.{least_to_exists}
use Rattle.search.specs.Order.{Le, le_eq, le_mono_right, le_trans}
use Rattle.search.proofs.RouteLengths.{route_short}
use Rattle.search.proofs.Treks.{Trek}
use Rattle.search.proofs.TwoRoutes.{two_way_route}
use Rattle.search.proofs.TwoWay.{Outcome, outcome_least, two_way_outcome}

module _ {C : Type 0} {k : Kind C} {f : Floor C} {s t : ℕ} (laws : Laws k) (fl : FloorLaws k f) (s-in : s < f.nodes) (t-in : t < f.nodes) where
  worth_backward : (c g : C) (v : ℕ) → Least k f s t c → (g ≡ k.beyond) ⊎ Trek k f v t g → NoneBelow k f s t (k.join g (f.bound s v)) → WorthBackward k f s t c v
  worth_backward c g v l r n =
      let d = least_to_exists k laws f fl v t t-in in
      let low : Le k d.0 g = elim r [ inl e ↦ subst (Le k d.0) (sym e) (laws.beyond_greatest _) | inr w ↦ subst (Le k d.0) w.costs (d.1.lower w.lanes w.walk) ] in
      (d.0, d.1, le_trans k laws (le_mono_right k laws (f.bound s v) low) (le_trans k laws (le_eq k laws (laws.join_comm _ _)) (under_least k laws f fl s t c _ l n)))

  outcome : Outcome k f s t (two_way k f s t)
  outcome = two_way_outcome laws f s t s-in t-in fl

  least : Least k f s t (two_way k f s t).met.cost
  least = outcome_least outcome

  pub two_way_right : RightBoth k f s t (two_way k f s t).met.cost (two_route k f s t) (two_way k f s t).near.rows (two_way k f s t).far.rows
  two_way_right = record {
    right = record {
      optimal = least.lower;
      route = two_way_route laws fl s-in t-in;
      beyond = beyond_all k laws f fl s t (two_way k f s t).met.cost least;
      scans = λ v q. worth_forward k laws f fl s t _ (label_at k (two_way k f s t).near.rows v) v s-in least (outcome.near_reach v) (λ is w. outcome.near_scans v q _ (record { lanes = is; walk = w; costs = refl }));
    };
    scans_back = λ v q. worth_backward _ (label_at k (two_way k f s t).far.rows v) v least (outcome.far_reach v) (λ is w. outcome.far_scans v q _ (record { lanes = is; walk = w; costs = refl }));
  }

  pub two_route_short : ((two_way k f s t).met.cost ≡ k.beyond → ⊥) → length (two_route k f s t) ≤ f.nodes
  two_route_short real = route_short fl s-in (two_way_route laws fl s-in t-in real)
