-- The one-way search answers with the least cost, and scans only nodes that are worth it.
use Rattle.std.proofs.Common.{◌≡◌, ℕ, ◌<◌, ◌⊎◌, ◌↔◌, List, sym, ◌∙◌, subst, inl, inr}
use Rattle.cost.specs.Kind.{Kind, Laws}
use Rattle.plant.specs.Floor.{Floor, FloorLaws}
use Rattle.plant.specs.Walk.{Least, NoneBelow, walk_cost}
use Rattle.search.specs.Answer.{AllBeyond, Right, WorthForward}
use Rattle.search.specs.OneWay.{Found, one_route, one_way}
use Rattle.search.proofs.At.{label_at}
use Rattle.search.proofs.OneWay.{Finished, one_way_finished}
use Rattle.search.specs.Order.{Le, is_beyond, le_mono, le_trans}
use Rattle.search.proofs.States.{scanned_not_blank}
use Rattle.search.proofs.LeastCosts.{least_exists}
use Rattle.search.proofs.Treks.{Trek}

module _ {C : Type 0} (k : Kind C) (laws : Laws k) (f : Floor C) (fl : FloorLaws k f) (s t : ℕ) where
  -- what no walk undercuts is at most a least cost
  pub under_least : (c x : C) → Least k f s t c → NoneBelow k f s t x → Le k x c
  under_least c x l n = elim l.reached [ inl e ↦ subst (Le k x) (sym e) (laws.beyond_greatest x) | inr r ↦ subst (Le k x) r.2 (n r.0 r.1) ]

  -- the least cost is beyond exactly when every walk costs beyond
  pub beyond_all : (c : C) → Least k f s t c → (c ≡ k.beyond) ↔ AllBeyond k f s t
  beyond_all c l = (λ e is w. is_beyond k laws (walk_cost k f is) (subst (λ x. Le k x (walk_cost k f is)) e (l.lower is w)), λ a. elim l.reached [ inl e ↦ e | inr r ↦ sym r.2 ∙ a r.0 r.1 ])

  pub worth_forward : (c g : C) (v : ℕ) → s < f.nodes → Least k f s t c → (g ≡ k.beyond) ⊎ Trek k f s v g → NoneBelow k f s t (k.join g (f.bound v t)) → WorthForward k f s t c v
  worth_forward c g v s-in l r n =
      let d = least_exists k laws f fl s v s-in in
      let low : Le k d.0 g = elim r [ inl e ↦ subst (Le k d.0) (sym e) (laws.beyond_greatest _) | inr w ↦ subst (Le k d.0) w.costs (d.1.lower w.lanes w.walk) ] in
      (d.0, d.1, le_trans k laws (le_mono k laws (f.bound v t) low) (under_least c _ l n))

  -- a search that has finished has answered right
  pub finished_right : s < f.nodes → (found : Found C) (nodes : List ℕ) → Finished k f s t found nodes → Right k f s t found.cost nodes found.rows
  finished_right s-in found nodes h = record {
    optimal = h.optimal;
    route = λ n. elim h.sound [ inl e ↦ absurd (n e) | inr r ↦ r ];
    beyond = beyond_all found.cost least;
    scans = λ v q. worth_forward found.cost (label_at k found.rows v) v s-in least (inr (h.labels v (scanned_not_blank _ q))) (h.scans v q);
  }
    where
      least : Least k f s t found.cost
      least = record { lower = h.optimal; reached = elim h.sound [ inl e ↦ inl e | inr r ↦ inr (r.lanes, r.walk, r.costs) ] }

pub one_way_right : {C : Type 0} {k : Kind C} {f : Floor C} {s t : ℕ} → Laws k → FloorLaws k f → s < f.nodes → t < f.nodes → Right k f s t (one_way k f s t).cost (one_route k f s t) (one_way k f s t).rows
one_way_right {C} {k} {f} {s} {t} laws fl s-in t-in = finished_right k laws f fl s t s-in (one_way k f s t) (one_route k f s t) (one_way_finished k laws f fl s t s-in t-in)
