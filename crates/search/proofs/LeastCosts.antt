-- The survey labels each node with the least cost from the start; so every pair of nodes has a least cost.
use Rattle.std.proofs.Common.{◌≡◌, ℕ, zero, suc, ◌+◌, ◌<◌, ◌⊎◌, List, [], ◌∷◌, Some, None, Option, sym, refl, ap, ◌∙◌, subst, inl, inr, arith}
use Rattle.std.specs.List.{slice_get}
use Rattle.cost.specs.Kind.{Kind, Laws}
use Rattle.plant.specs.declared.lane.Lane.{Lane}
use Rattle.plant.specs.Floor.{Floor, FloorLaws, turned, blinded}
use Rattle.plant.specs.Walk.{Walk, walk_cost, lane_cost, NoneBelow, Least}
use Rattle.plant.specs.FloorFacts.{turned_laws, blinded_laws}
use Rattle.search.specs.declared.entry.Entry.{Entry}
use Rattle.search.specs.declared.row.Row.{Row}
use Rattle.search.specs.declared.row.State.TheVariants.{Blank, Scanned}
use Rattle.search.specs.Answer.{LeastExist, LabelsLeast}
use Rattle.search.specs.Rows.{row_at}
use Rattle.search.specs.Steps.{pick, scan, count_scanned, start_rows, in_reach}
use Rattle.search.specs.Survey.{survey_from, survey}
use Rattle.search.proofs.At.{label_at, state_at}
use Rattle.search.proofs.Invariant.{Core, core_start, count_start}
use Rattle.search.specs.Order.{Le, le_trans, le_eq, le_mono, zero_join, le_beyond, beyond_join, is_beyond}
use Rattle.search.proofs.Picks.{Picked, picked_from}
use Rattle.search.proofs.RowCounts.{count_le}
use Rattle.search.proofs.Standing.{none_left, next_core, counts_next, reached}
use Rattle.search.proofs.States.{stood_blank, stood_labelled, stood_scanned, stood_dropped, stand, labelled_not_blank, scanned_not_blank, scanned_or_not}
use Rattle.search.proofs.Treks.{trek_turned, trek_unturned}

-- a walk where the bounds are zero is a walk of the same cost
pub walk_seen : {C : Type 0} (k : Kind C) (f : Floor C) (is : List ℕ) (v z : ℕ) → Walk (blinded k f) v is z → Walk f v is z
walk_seen k f [] v z e = e
walk_seen k f (i ∷ is) v z h = (h.0, h.1, h.2, walk_seen k f is h.0.head z h.3)

pub cost_blinded : {C : Type 0} (k : Kind C) (f : Floor C) (is : List ℕ) → walk_cost k (blinded k f) is ≡ walk_cost k f is
cost_blinded k f [] = refl
cost_blinded k f (i ∷ is) = ap (k.join (lane_cost k (slice_get f.lanes i))) (cost_blinded k f is)

module _ {C : Type 0} (k : Kind C) (laws : Laws k) (f : Floor C) (fl : FloorLaws k f) (start : ℕ) (start-in : start < f.nodes) where
  module _ (rows : List (Row C)) (core : Core k (blinded k f) start 0 rows) (none : Picked k (blinded k f) 0 (in_reach k) 0 rows None) where
    left_beyond : (v : ℕ) → (state_at k rows v ≡ Scanned → ⊥) → label_at k rows v ≡ k.beyond
    left_beyond v n = is_beyond k laws (label_at k rows v) (subst (Le k k.beyond) (laws.join_zero _) (none_left laws (blinded_laws laws fl) fl.some_node core none v n))

    chain : (i : ℕ) (l : Lane C) → slice_get f.lanes i ≡ Some l → Le k (label_at k rows l.head) (k.join (label_at k rows l.tail) l.cost)
    chain i l e = elim (scanned_or_not (state_at k rows l.tail)) [
      | inl s ↦ subst (λ x. Le k x (k.join (label_at k rows l.tail) l.cost)) (laws.join_zero _) (subst (Le k (k.join (label_at k rows l.head) k.zero)) (laws.join_zero _) (core.settled i l e s))
      | inr n ↦ le_beyond k laws (le_eq k laws (sym (ap (λ x. k.join x l.cost) (left_beyond l.tail n) ∙ beyond_join k laws l.cost)))
    ]

    along : (is : List ℕ) (v z : ℕ) → Walk f v is z → Le k (label_at k rows z) (k.join (label_at k rows v) (walk_cost k f is))
    along [] v z e = le_eq k laws (ap (label_at k rows) (sym e) ∙ sym (laws.join_zero _))
    along (i ∷ is) v z h =
        let l = h.0 in
        let step : Le k (label_at k rows l.head) (k.join (label_at k rows v) (lane_cost k (slice_get f.lanes i))) = subst (λ x. Le k (label_at k rows l.head) (k.join (label_at k rows x) (lane_cost k (slice_get f.lanes i)))) h.2 (subst (λ x. Le k (label_at k rows l.head) (k.join (label_at k rows l.tail) x)) (sym (ap (lane_cost k) h.1)) (chain i l h.1)) in
        le_trans k laws (along is l.head z h.3) (le_trans k laws (le_mono k laws (walk_cost k f is) step) (le_eq k laws (laws.join_assoc _ _ _)))

    labels_least : (v : ℕ) → Least k f start v (label_at k rows v)
    labels_least v = record {
      lower = λ is w. le_trans k laws (along is start v w) (le_eq k laws (ap (λ x. k.join x (walk_cost k f is)) core.first ∙ zero_join k laws _));
      reached = elim (stand (state_at k rows v)) [
        | stood_blank b ↦ inl (core.far v b)
        | stood_labelled s ↦ met (labelled_not_blank (state_at k rows v) s)
        | stood_scanned s ↦ met (scanned_not_blank (state_at k rows v) s)
        | stood_dropped d ↦ absurd (core.undropped v d)
      ];
    }
      where
        met : (state_at k rows v ≡ Blank → ⊥) → (label_at k rows v ≡ k.beyond) ⊎ ((is : List ℕ) × Walk f start is v × (walk_cost k f is ≡ label_at k rows v))
        met n = let r = reached laws (blinded_laws laws fl) fl.some_node core v n in inr (r.lanes, walk_seen k f r.lanes start v r.walk, sym (cost_blinded k f r.lanes) ∙ r.costs)

  survey_from_right : (n : ℕ) (rows : List (Row C)) → Core k (blinded k f) start 0 rows → f.nodes < n + count_scanned rows → LabelsLeast k f start (survey_from k (blinded k f) n rows)
  survey_from_right zero rows core h = absurd (let c = count_le k rows in let m = core.long in omega arith)
  survey_from_right (suc n) rows core h = on_pick (survey_from_right n) (pick k (blinded k f) 0 (in_reach k) rows) (picked_from k laws (blinded k f) 0 (in_reach k) 0 rows)
    where
      on_pick : ((rows' : List (Row C)) → Core k (blinded k f) start 0 rows' → f.nodes < n + count_scanned rows' → LabelsLeast k f start (survey_from k (blinded k f) n rows')) → (o : Option (Entry C)) → Picked k (blinded k f) 0 (in_reach k) 0 rows o
          → LabelsLeast k f start (elim o [ None ↦ rows | Some e ↦ survey_from k (blinded k f) n (scan k (blinded k f) rows e.node) ])
      on_pick more None p = record { labels = labels_least rows core p }
      on_pick more (Some e) p = more (scan k (blinded k f) rows e.node) (next_core laws (blinded_laws laws fl) fl.some_node core e p)
          (let c = counts_next laws (blinded_laws laws fl) fl.some_node core e p in omega arith)

  survey_right_at : LabelsLeast k f start (survey k f start)
  survey_right_at = survey_from_right (suc f.nodes) (start_rows k f start) (core_start k laws (blinded k f) start 0 start-in) (let c = count_start k laws f start 0 start-in in omega arith)

-- the survey's labels are the least costs from the start
pub survey_right : {C : Type 0} {k : Kind C} {f : Floor C} {s : ℕ} → Laws k → FloorLaws k f → s < f.nodes → LabelsLeast k f s (survey k f s)
survey_right {C} {k} {f} {s} laws fl s-in = survey_right_at k laws f fl s s-in

-- every node has a least cost from s
pub least_exists : {C : Type 0} (k : Kind C) → Laws k → (f : Floor C) → FloorLaws k f → (s v : ℕ) → s < f.nodes → (c : C) × Least k f s v c
least_exists k laws f fl s v h = ((row_at k (survey k f s) v).label, (survey_right laws fl h).labels v)

-- and every node has a least cost to t
pub least_to_exists : {C : Type 0} (k : Kind C) → Laws k → (f : Floor C) → FloorLaws k f → (v t : ℕ) → t < f.nodes → (c : C) × Least k f v t c
least_to_exists {C} k laws f fl v t h = (least.0, record { lower = lower; reached = met least.1.reached })
  where
    least : (c : C) × Least k (turned f) t v c
    least = least_exists k laws (turned f) (turned_laws laws fl) t v h

    lower : NoneBelow k f v t least.0
    lower is w = let t = trek_turned k laws {f = f} (record { lanes = is; walk = w; costs = refl }) in subst (Le k least.0) t.costs (least.1.lower t.lanes t.walk)

    met : (least.0 ≡ k.beyond) ⊎ ((is : List ℕ) × Walk (turned f) t is v × (walk_cost k (turned f) is ≡ least.0)) → (least.0 ≡ k.beyond) ⊎ ((is : List ℕ) × Walk f v is t × (walk_cost k f is ≡ least.0))
    met (inl e) = inl e
    met (inr (is, w, e)) = let t = trek_unturned k laws {f = f} (record { lanes = is; walk = w; costs = e }) in inr (t.lanes, t.walk, t.costs)

-- every two nodes have a least cost
pub least_exist : {C : Type 0} {k : Kind C} {f : Floor C} → Laws k → FloorLaws k f → LeastExist k f
least_exist {C} {k} {f} laws fl v z v-in z-in = least_exists k laws f fl v z v-in
