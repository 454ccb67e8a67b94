-- The one-way search ends with a walk of the smallest cost, or with none below beyond.
use Rattle.std.proofs.Common.{◌≡◌, ℕ, zero, suc, ◌+◌, ◌<◌, Bool, true, false, eqb, ◌⊎◌, List, [], ◌∷◌, Some, None, Option, sym, refl, ap, ◌∙◌, subst, inl, inr, arith}
use Rattle.std.specs.List.{slice_get}
use Rattle.std.proofs.lemmas.List.{append-nil}
use Rattle.std.proofs.lemmas.Bool.{eqb-true, eqb-false}
use Rattle.cost.specs.Kind.{Kind, Laws}
use Rattle.plant.specs.Floor.{Floor, FloorLaws}
use Rattle.plant.specs.Walk.{Walk, walk_cost, lane_cost, route, NoneBelow}
use Rattle.search.specs.declared.entry.Entry.{Entry}
use Rattle.search.specs.declared.row.Row.{Row}
use Rattle.search.specs.declared.row.State.TheVariants.{Labelled, Scanned, Blank}
use Rattle.search.specs.Answer.{RouteOf}
use Rattle.search.specs.OneWay.{Found, one_from, one_way, one_route}
use Rattle.search.specs.Steps.{pick, scan, count_scanned, start_rows, trace, in_reach}
use Rattle.search.proofs.At.{label_at, state_at, key_at}
use Rattle.search.proofs.Invariant.{Inv, inv_start, inv_step, count_start}
use Rattle.search.specs.Order.{Le, le_trans, le_mono_right, zero_join}
use Rattle.search.proofs.Picks.{First, Picked, picked_from}
use Rattle.search.proofs.Routes.{Traced, rising_distinct}
use Rattle.search.proofs.RowCounts.{count_le, count_lt}
use Rattle.search.proofs.Scans.{scanning}
use Rattle.search.proofs.Standing.{ranks, none_left, least_left, node_state, node_label, node_key, node_in, counts_next, rank_left, traces, reached}
use Rattle.search.proofs.States.{not_scanned, labelled_not_scanned, labelled_not_blank, scanned_or_not}
use Rattle.search.proofs.Treks.{Trek, trek_bound}

-- a node that is yet to be scanned, with a key of at most c
pub record Frontier {C : Type 0} (k : Kind C) (f : Floor C) (goal : ℕ) (rows : List (Row C)) (c : C) : Type 0 where
  pub node : ℕ
  pub left : state_at k rows node ≡ Scanned → ⊥
  pub cheap : Le k (key_at k f goal rows node) c

-- what the search from start to goal has found, when it comes to its end
pub record Finished {C : Type 0} (k : Kind C) (f : Floor C) (start goal : ℕ) (found : Found C) (nodes : List ℕ) : Type 0 where
  pub optimal : NoneBelow k f start goal found.cost
  pub sound : (found.cost ≡ k.beyond) ⊎ RouteOf k f start goal found.cost nodes
  -- a node is scanned only if no walk costs less than its key
  pub scans : (v : ℕ) → state_at k found.rows v ≡ Scanned → NoneBelow k f start goal (key_at k f goal found.rows v)
  pub labels : (v : ℕ) → (state_at k found.rows v ≡ Blank → ⊥) → Trek k f start v (label_at k found.rows v)

module _ {C : Type 0} (k : Kind C) (laws : Laws k) (f : Floor C) (fl : FloorLaws k f) (start goal : ℕ) (start-in : start < f.nodes) (goal-in : goal < f.nodes) where
  -- no walk to the goal costs less than the bound
  walk_least : (is : List ℕ) (v : ℕ) → Walk f v is goal → Le k (f.bound v goal) (walk_cost k f is)
  walk_least is v w = trek_bound k laws fl goal-in (record { lanes = is; walk = w; costs = refl })

  module _ (rows : List (Row C)) (inv : Inv k f start goal rows) where
    here : (is : List ℕ) (v : ℕ) → Walk f v is goal → (state_at k rows v ≡ Scanned → ⊥) → Frontier k f goal rows (k.join (label_at k rows v) (walk_cost k f is))
    here is v w n = record { node = v; left = n; cheap = le_mono_right k laws (label_at k rows v) (walk_least is v w) }

    -- a walk to the goal from a scanned node goes over the frontier
    frontier : (is : List ℕ) (v : ℕ) → Walk f v is goal → Frontier k f goal rows (k.join (label_at k rows v) (walk_cost k f is))
    frontier [] v w = here [] v w (λ s. inv.goal_left (subst (λ x. state_at k rows x ≡ Scanned) w s))
    frontier (i ∷ is) v (l, e, t, w) = elim (scanned_or_not (state_at k rows v)) [
      | inl s ↦ on s (frontier is l.head w)
      | inr n ↦ here (i ∷ is) v (l, e, t, w) n
    ]
      where
        rest : C
        rest = walk_cost k f is

        sums : k.join (k.join (label_at k rows l.tail) l.cost) rest ≡ k.join (label_at k rows v) (k.join (lane_cost k (slice_get f.lanes i)) rest)
        sums = laws.join_assoc (label_at k rows l.tail) l.cost rest ∙ ap (λ x. k.join (label_at k rows x) (k.join l.cost rest)) t ∙ ap (λ c. k.join (label_at k rows v) (k.join c rest)) (sym (ap (lane_cost k) e))

        step : state_at k rows v ≡ Scanned → Le k (k.join (label_at k rows l.head) rest) (k.join (label_at k rows v) (k.join (lane_cost k (slice_get f.lanes i)) rest))
        step s = subst (λ c. Le k (k.join (label_at k rows l.head) rest) c) sums
            (laws.shared (label_at k rows l.head) (k.join (label_at k rows l.tail) l.cost) (f.bound l.head goal) rest (inv.core.settled i l e (ap (state_at k rows) t ∙ s)) (walk_least is l.head w))

        on : state_at k rows v ≡ Scanned → Frontier k f goal rows (k.join (label_at k rows l.head) rest) → Frontier k f goal rows (k.join (label_at k rows v) (k.join (lane_cost k (slice_get f.lanes i)) rest))
        on s p = record { node = p.node; left = p.left; cheap = le_trans k laws p.cheap (step s) }

    -- what is at most every key of the frontier is at most the cost of every walk
    no_walk_below : (c : C) → ((v : ℕ) → (state_at k rows v ≡ Scanned → ⊥) → Le k c (key_at k f goal rows v)) → NoneBelow k f start goal c
    no_walk_below c h is w =
        let p = frontier is start w in
        subst (λ x. Le k c x) (ap (λ x. k.join x (walk_cost k f is)) inv.core.first ∙ zero_join k laws (walk_cost k f is))
        (le_trans k laws (h p.node p.left) p.cheap)

    module _ (e : Entry C) (first : First k f goal (in_reach k) 0 rows e) where
      open_e : state_at k rows e.node ≡ Labelled
      open_e = node_state laws fl goal-in inv.core e first

      -- no node that is left has a smaller key
      first_key : (v : ℕ) → (state_at k rows v ≡ Scanned → ⊥) → Le k (key_at k f goal rows e.node) (key_at k f goal rows v)
      first_key v n = subst (λ c. Le k c (key_at k f goal rows v)) (node_key laws fl goal-in inv.core e first) (least_left laws fl goal-in inv.core e first v n)

      scanned_next : (e.node ≡ goal → ⊥) → Inv k f start goal (scan k f rows e.node)
      scanned_next d = inv_step laws fl goal-in inv.core
          (scanning k laws f fl e.node rows inv.core.long (node_in laws fl goal-in inv.core e first) (labelled_not_scanned (state_at k rows e.node) open_e))
          open_e (λ v o. first_key v (labelled_not_scanned (state_at k rows v) o)) inv d (no_walk_below (key_at k f goal rows e.node) first_key)

      goal_optimal : e.node ≡ goal → NoneBelow k f start goal e.label
      goal_optimal p = subst (NoneBelow k f start goal) same (no_walk_below (key_at k f goal rows e.node) first_key)
        where
          same : key_at k f goal rows e.node ≡ e.label
          same = ap (λ c. k.join (label_at k rows e.node) c) (ap (λ x. f.bound x goal) p ∙ fl.bound_self goal goal-in) ∙ laws.join_zero (label_at k rows e.node) ∙ sym (node_label laws fl goal-in inv.core e first)

    shown : state_at k rows goal ≡ Labelled → RouteOf k f start goal (label_at k rows goal) (trace k f start rows f.nodes goal [])
    shown o = record {
      lanes = t.lanes;
      walk = t.walk;
      costs = t.costs;
      is = t.visits [] ∙ append-nil (route f start t.lanes);
      distinct = rising_distinct (ranks k rows inv.core.rank) (trace k f start rows f.nodes goal []) (t.rising [] (tt, tt));
    }
      where
        open_goal : state_at k rows goal ≡ Scanned → ⊥
        open_goal = labelled_not_scanned (state_at k rows goal) o

        low : ranks k rows inv.core.rank goal < f.nodes
        low = let a = rank_left laws fl goal-in inv.core goal open_goal in let b = inv.core.long in let c = count_lt k rows goal (omega arith) (not_scanned (state_at k rows goal) open_goal) in omega arith

        t : Traced k f start rows (ranks k rows inv.core.rank) f.nodes goal
        t = traces laws fl goal-in inv.core f.nodes goal low (labelled_not_blank (state_at k rows goal) o)

    finished_none : Picked k f goal (in_reach k) 0 rows None → Finished k f start goal (record { rows = rows; cost = k.beyond }) (trace k f start rows f.nodes goal [])
    finished_none h = record {
      optimal = no_walk_below k.beyond (none_left laws fl goal-in inv.core h);
      sound = inl refl;
      scans = inv.under;
      labels = reached laws fl goal-in inv.core;
    }

    finished_goal : (e : Entry C) → First k f goal (in_reach k) 0 rows e → e.node ≡ goal → Finished k f start goal (record { rows = rows; cost = e.label }) (trace k f start rows f.nodes goal [])
    finished_goal e h p = record {
      optimal = goal_optimal e h p;
      sound = inr (subst (λ c. RouteOf k f start goal c (trace k f start rows f.nodes goal [])) (sym (node_label laws fl goal-in inv.core e h ∙ ap (label_at k rows) p)) (shown (sym (ap (state_at k rows) p) ∙ node_state laws fl goal-in inv.core e h)));
      scans = inv.under;
      labels = reached laws fl goal-in inv.core;
    }

  abbrev Done : Found C → Type 0
  Done found = Finished k f start goal found (trace k f start found.rows f.nodes goal [])

  done_step : (n : ℕ) (rows : List (Row C)) → Inv k f start goal rows → f.nodes < suc n + count_scanned rows
      → ((rows' : List (Row C)) → Inv k f start goal rows' → f.nodes < n + count_scanned rows' → Done (one_from k f goal n rows'))
      → Done (one_from k f goal (suc n) rows)
  done_step n rows inv h next = on_pick (pick k f goal (in_reach k) rows) (picked_from k laws f goal (in_reach k) 0 rows)
    where
      on_test : (e : Entry C) → First k f goal (in_reach k) 0 rows e → (b : Bool) → eqb e.node goal ≡ b
          → Done (elim b [ true ↦ record { rows = rows; cost = e.label } | false ↦ one_from k f goal n (scan k f rows e.node) ])
      on_test e p true t = finished_goal rows inv e p (eqb-true e.node goal t)
      on_test e p false t = next (scan k f rows e.node) (scanned_next rows inv e p (eqb-false e.node goal t)) (let c = counts_next laws fl goal-in inv.core e p in omega arith)

      on_pick : (o : Option (Entry C)) → Picked k f goal (in_reach k) 0 rows o
          → Done (elim o [ None ↦ record { rows = rows; cost = k.beyond } | Some e ↦ elim (eqb e.node goal) [ true ↦ record { rows = rows; cost = e.label } | false ↦ one_from k f goal n (scan k f rows e.node) ] ])
      on_pick None p = finished_none rows inv p
      on_pick (Some e) p = on_test e p (eqb e.node goal) refl

  done_from : (n : ℕ) (rows : List (Row C)) → Inv k f start goal rows → f.nodes < n + count_scanned rows → Done (one_from k f goal n rows)
  done_from zero rows inv h = absurd (let c = count_le k rows in let m = inv.core.long in omega arith)
  done_from (suc n) rows inv h = done_step n rows inv h (done_from n)

  pub one_way_finished : Finished k f start goal (one_way k f start goal) (one_route k f start goal)
  one_way_finished = done_from (suc f.nodes) (start_rows k f start) (inv_start k laws f start goal start-in) (let c = count_start k laws f start goal start-in in omega arith)
