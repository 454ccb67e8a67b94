-- A route that repeats no node has no more nodes than the floor.
use Rattle.std.proofs.Common.{ℕ, ◌<◌, ◌≤◌, List, [], ◌∷◌, length, sym, ap, ◌∙◌, subst, inl, inr}
use Rattle.cost.specs.Kind.{Kind}
use Rattle.plant.specs.Floor.{Floor, FloorLaws}
use Rattle.plant.specs.Walk.{Walk, heads, lane_head, route}
use Rattle.search.specs.Answer.{RouteOf}
use Rattle.search.specs.Lists.{In}
use Rattle.search.proofs.Numbers.{no_more_below}

module _ {C : Type 0} {k : Kind C} {f : Floor C} (fl : FloorLaws k f) where
  heads_nodes : (is : List ℕ) (v z : ℕ) → Walk f v is z → (n : ℕ) → In n (heads f is) → n < f.nodes
  heads_nodes [] v z w n h = absurd h
  heads_nodes (i ∷ is) v z (l, e, t, w) n (inl p) = subst (λ x. x < f.nodes) (sym (p ∙ ap lane_head e)) (fl.head_node i l e)
  heads_nodes (i ∷ is) v z (l, e, t, w) n (inr h) = heads_nodes is l.head z w n h

  pub route_short : {s t : ℕ} {c : C} {nodes : List ℕ} → s < f.nodes → RouteOf k f s t c nodes → length nodes ≤ f.nodes
  route_short {s} {t} {c} {nodes} s-in r = no_more_below f.nodes nodes r.distinct (λ n i. within n (subst (In n) r.is i))
    where
      within : (n : ℕ) → In n (route f s r.lanes) → n < f.nodes
      within n (inl e) = subst (λ x. x < f.nodes) (sym e) s-in
      within n (inr h) = heads_nodes r.lanes s t r.walk n h
