-- The paths that the rows of a side make: each leads back to the side's source, over followed nodes, and repeats no node.
use Rattle.std.proofs.Common.{◌≡◌, ℕ, zero, suc, ◌+◌, ◌≤◌, true, false, ◌⊎◌, List, [], ◌∷◌, ◌++◌, reverse, length, Some, Option, sym, refl, ap, ◌∙◌, subst, inl, inr, arith}
use mathlib.Core.List.{reverse_aux, reverse-cons}
use Rattle.std.specs.List.{slice_get}
use Rattle.std.proofs.lemmas.Bool.{cases_eq, both_ways}
use Rattle.cost.specs.Kind.{Kind, Laws}
use Rattle.plant.specs.declared.lane.Lane.{Lane}
use Rattle.plant.specs.Floor.{Floor, turn, turned}
use Rattle.plant.specs.Walk.{Walk, walk_cost, lane_cost, lane_head, heads, route}
use Rattle.plant.specs.FloorFacts.{turned_lane}
use Rattle.search.specs.declared.row.Row.{Row}
use Rattle.search.specs.declared.row.State.{State}
use Rattle.search.specs.declared.row.State.TheVariants.{Blank, Scanned}
use Rattle.search.specs.Lists.{In, Distinct}
use Rattle.search.specs.Rows.{is_labelled, is_open, row_at}
use Rattle.search.specs.Steps.{trace, lane_tail}
use Rattle.search.proofs.At.{label_at, state_at}
use Rattle.search.proofs.Follows.{Relabelled}
use Rattle.search.proofs.Moves.{Moved}
use Rattle.search.proofs.RowCounts.{count_open, count_open_all}
use Rattle.search.proofs.Routes.{walk_push, cost_push, heads_push}
use Rattle.search.proofs.States.{labelled_open}
use Rattle.search.proofs.TraceFacts.{trace_here, trace_on}

abbrev lane_at : {C : Type 0} → Kind C → List (Row C) → ℕ → ℕ
lane_at k rows v = (row_at k rows v).lane

-- the nodes from v back to s by the lanes of the rows, all but v among the followed ones
pub data Stem {C : Type 0} (k : Kind C) (f : Floor C) (s : ℕ) (rows : List (Row C)) (followed : List ℕ) : ℕ → List ℕ → Type 0 where
  root : Stem k f s rows followed s (s ∷ [])
  grow : (v : ℕ) (ns : List ℕ) (l : Lane C) → slice_get f.lanes (row_at k rows v).lane ≡ Some l → l.head ≡ v → In l.tail followed → label_at k rows v ≡ k.join (label_at k rows l.tail) l.cost → (v ≡ s → ⊥) → (In v ns → ⊥) →
      Stem k f s rows followed l.tail ns → Stem k f s rows followed v (v ∷ ns)

module _ {C : Type 0} {k : Kind C} {f : Floor C} {s : ℕ} {rows : List (Row C)} {old : List ℕ} where
  stem_keep : {now : List (Row C)} {new : List ℕ} → ((u : ℕ) → In u old → In u new) → ((u : ℕ) → In u old → row_at k now u ≡ row_at k rows u) →
      {v : ℕ} {ns : List ℕ} → Stem k f s rows old v ns → label_at k now v ≡ label_at k rows v → lane_at k now v ≡ lane_at k rows v → Stem k f s now new v ns
  stem_keep sub kept root a b = root
  stem_keep sub kept (grow v ns l there into follows labels ne un st) a b =
      let q = kept l.tail follows in
      grow v ns l (ap (slice_get f.lanes) b ∙ there) into (sub _ follows) (a ∙ (labels ∙ ap (λ (r : Row C). k.join r.label l.cost) (sym q))) ne un
      (stem_keep sub kept st (ap (λ (r : Row C). r.label) q) (ap (λ (r : Row C). r.lane) q))

  pub stem_in : {v : ℕ} {ns : List ℕ} → Stem k f s rows old v ns → (u : ℕ) → In u ns → (u ≡ v) ⊎ In u old
  stem_in root u (inl p) = inl p
  stem_in root u (inr p) = absurd p
  stem_in (grow v ns l there into follows labels ne un st) u (inl p) = inl p
  stem_in (grow v ns l there into follows labels ne un st) u (inr p) = elim (stem_in st u p) [ inl q ↦ inr (subst (λ x. In x old) (sym q) follows) | inr q ↦ inr q ]

  pub stem_distinct : {v : ℕ} {ns : List ℕ} → Stem k f s rows old v ns → Distinct ns
  stem_distinct root = (λ h. h, tt)
  stem_distinct (grow v ns l there into follows labels ne un st) = (un, stem_distinct st)

  -- the trace follows the stem
  pub stem_trace : {v : ℕ} {ns : List ℕ} → Stem k f s rows old v ns → (n : ℕ) → length ns ≤ n → (after : List ℕ) → trace k f s rows n v after ≡ reverse_aux ns after
  stem_trace root zero h after = absurd (omega arith)
  stem_trace root (suc n) h after = trace_here k f s rows (suc n) n s after refl refl
  stem_trace (grow v ns l there into follows labels ne un st) zero h after = absurd (omega arith)
  stem_trace (grow v ns l there into follows labels ne un st) (suc n) h after =
      trace_on k f s rows (suc n) n v after refl ne ∙ ap (λ (o : Option (Lane C)). trace k f s rows n (lane_tail o) (v ∷ after)) there ∙ stem_trace st n (omega arith) (v ∷ after)

-- the walk that a stem makes, from the source to v
pub record Down {C : Type 0} (k : Kind C) (f : Floor C) (s : ℕ) (rows : List (Row C)) (v : ℕ) (ns : List ℕ) : Type 0 where
  pub lanes : List ℕ
  pub walk : Walk f s lanes v
  pub costs : walk_cost k f lanes ≡ label_at k rows v
  pub nodes : route f s lanes ≡ reverse ns

-- the walk over f that a stem over the turned floor makes, from v to the source
pub record Up {C : Type 0} (k : Kind C) (f : Floor C) (t : ℕ) (rows : List (Row C)) (v : ℕ) (ns : List ℕ) : Type 0 where
  pub lanes : List ℕ
  pub walk : Walk f v lanes t
  pub costs : walk_cost k f lanes ≡ label_at k rows v
  pub nodes : route f v lanes ≡ ns

pub distinct_onto : (xs ys : List ℕ) → Distinct xs → Distinct ys → ((u : ℕ) → In u xs → In u ys → ⊥) → Distinct (reverse_aux xs ys)
distinct_onto [] ys dx dy apart = dy
distinct_onto (x ∷ xs) ys dx dy apart = distinct_onto xs (x ∷ ys) dx.1 (apart x (inl refl), dy) (λ u h j. elim j [ inl p ↦ dx.0 (subst (λ z. In z xs) p h) | inr q ↦ apart u (inr h) q ])

module _ {C : Type 0} {k : Kind C} (laws : Laws k) where
  pub stem_down : {f : Floor C} {s : ℕ} {rows : List (Row C)} {old : List ℕ} → label_at k rows s ≡ k.zero → {v : ℕ} {ns : List ℕ} → Stem k f s rows old v ns → Down k f s rows v ns
  stem_down z root = record { lanes = []; walk = refl; costs = sym z; nodes = refl }
  stem_down {f} {s} {rows} {old} z (grow v ns l there into follows labels ne un st) =
      let d = stem_down z st in
      let i = lane_at k rows v in
      record {
        lanes = d.lanes ++ i ∷ [];
        walk = subst (Walk f s (d.lanes ++ i ∷ [])) into (walk_push k laws f d.lanes s l.tail i l d.walk there refl);
        costs = cost_push k laws f d.lanes i l there ∙ (ap (λ x. k.join x l.cost) d.costs ∙ sym labels);
        nodes = ap (λ (x : List ℕ). s ∷ x) (heads_push k laws f d.lanes i l there) ∙ (λ j. d.nodes j ++ into j ∷ []) ∙ sym (reverse-cons v ns);
      }

  pub stem_up : {f : Floor C} {t : ℕ} {rows : List (Row C)} {old : List ℕ} → label_at k rows t ≡ k.zero → {v : ℕ} {ns : List ℕ} → Stem k (turned f) t rows old v ns → Up k f t rows v ns
  stem_up z root = record { lanes = []; walk = refl; costs = sym z; nodes = refl }
  stem_up {f} {t} {rows} {old} z (grow v ns l there into follows labels ne un st) =
      let d = stem_up z st in
      let i = lane_at k rows v in
      let here : slice_get f.lanes i ≡ Some (turn l) = turned_lane f.lanes i l there in
      record {
        lanes = i ∷ d.lanes;
        walk = (turn l, here, into, d.walk);
        costs = ap (λ o. k.join (lane_cost k o) (walk_cost k f d.lanes)) here ∙ (ap (k.join l.cost) d.costs ∙ (laws.join_comm _ _ ∙ sym labels));
        nodes = ap (λ o. v ∷ lane_head o ∷ heads f d.lanes) here ∙ ap (λ (x : List ℕ). v ∷ x) d.nodes;
      }

-- v's stem, and how long it is at most
pub record Trunk {C : Type 0} (k : Kind C) (f : Floor C) (s : ℕ) (rows : List (Row C)) (followed : List ℕ) (v : ℕ) : Type 0 where
  pub path : List ℕ
  pub stem : Stem k f s rows followed v path
  pub small : length path + count_open rows ≤ suc f.nodes
  pub smaller : is_open (state_at k rows v) ≡ false → length path + count_open rows ≤ f.nodes

-- each node that is not blank has a stem over the followed nodes
pub record Tree {C : Type 0} (k : Kind C) (f : Floor C) (s : ℕ) (rows : List (Row C)) (followed : List ℕ) : Type 0 where
  pub grown : (v : ℕ) → (state_at k rows v ≡ Blank → ⊥) → Trunk k f s rows followed v
  pub used : (v : ℕ) → In v followed → state_at k rows v ≡ Scanned

module _ {C : Type 0} {k : Kind C} {f : Floor C} {s : ℕ} {rows now : List (Row C)} {e : ℕ} {st : State} {old : List ℕ} (new : List ℕ) (tree : Tree k f s rows old) (mv : Moved k f e st rows now)
    (long : length rows ≡ f.nodes) (labels : is_labelled (state_at k rows e) ≡ true)
    (sub : (u : ℕ) → In u old → In u new) (fresh : (u : ℕ) → In u new → In u old ⊎ ((u ≡ e) × (st ≡ Scanned)))
    (either : In e new ⊎ ((v : ℕ) → (v ≡ e → ⊥) → row_at k now v ≡ row_at k rows v)) where
  not_blank : state_at k rows e ≡ Blank → ⊥
  not_blank h = both_ways _ (ap is_labelled h) labels

  followed_shut : (u : ℕ) → In u old → is_open (state_at k rows u) ≡ false
  followed_shut u h = ap is_open (tree.used u h)

  kept : (u : ℕ) → In u old → row_at k now u ≡ row_at k rows u
  kept u h = elim (mv.each u (λ p. both_ways _ (followed_shut u h) (ap (λ x. is_open (state_at k rows x)) p ∙ labelled_open _ labels))) [
    | inl q ↦ q
    | inr r ↦ absurd (both_ways _ (followed_shut u h) r.was_open)
  ]

  fewer : count_open now ≤ f.nodes
  fewer = let h = count_open_all rows in let j = mv.opens in omega arith

  trunk_e : Trunk k f s now new e
  trunk_e =
      let t = tree.grown e not_blank in
      let a = t.small in
      let j = mv.opens in
      record {
        path = t.path;
        stem = stem_keep sub kept t.stem (ap (λ (r : Row C). r.label) mv.self) (ap (λ (r : Row C). r.lane) mv.self);
        small = omega arith;
        smaller = λ _. omega arith;
      }

  trunk_same : (v : ℕ) → row_at k now v ≡ row_at k rows v → (state_at k now v ≡ Blank → ⊥) → Trunk k f s now new v
  trunk_same v q nb =
      let t = tree.grown v (λ h. nb (ap (λ (r : Row C). r.state) q ∙ h)) in
      let a = t.small in
      let j = mv.opens in
      record {
        path = t.path;
        stem = stem_keep sub kept t.stem (ap (λ (r : Row C). r.label) q) (ap (λ (r : Row C). r.lane) q);
        small = omega arith;
        smaller = λ h. let c = t.smaller (ap (λ (r : Row C). is_open r.state) (sym q) ∙ h) in omega arith;
      }

  trunk_new : (v : ℕ) → (v ≡ e → ⊥) → In e new → Relabelled k f e (label_at k rows e) v (row_at k rows v) (row_at k now v) → Trunk k f s now new v
  unfolding trunk_e
  trunk_new v n follows r = elim (cases_eq v s) [
    | inl p ↦ subst (Trunk k f s now new) (sym p) (record { path = s ∷ []; stem = root; small = let h = fewer in omega arith; smaller = λ h. absurd (both_ways _ (ap (λ x. is_open (state_at k now x)) p ∙ h) (ap (λ (x : Row C). is_open x.state) r.row)) })
    | inr ne ↦
        let t = tree.grown e not_blank in
        let a = t.small in
        let j = mv.opens in
        let tail_is : In r.it.tail new = subst (λ x. In x new) (sym r.from) follows in
        let stem-e : Stem k f s now new r.it.tail t.path = subst (λ x. Stem k f s now new x t.path) (sym r.from) trunk_e.stem in
        let un : In v t.path → ⊥ = λ h. elim (stem_in t.stem v h) [ inl p ↦ n p | inr o ↦ both_ways _ (followed_shut v o) r.was_open ] in
        record {
          path = v ∷ t.path;
          stem = grow v t.path r.it (ap (λ (x : Row C). slice_get f.lanes x.lane) r.row ∙ r.there) r.into tail_is
              (ap (λ (x : Row C). x.label) r.row ∙ ap (λ x. k.join x r.it.cost) (sym (ap (label_at k now) r.from ∙ ap (λ (x : Row C). x.label) mv.self))) ne un stem-e;
          small = omega arith;
          smaller = λ h. absurd (both_ways _ h (ap (λ (x : Row C). is_open x.state) r.row));
        }
  ]

  pub tree_moved : Tree k f s now new
  tree_moved = record {
    grown = λ v nb. elim (cases_eq v e) [
      | inl p ↦ subst (Trunk k f s now new) (sym p) trunk_e
      | inr n ↦ elim either [
        | inr same ↦ trunk_same v (same v n) nb
        | inl follows ↦ elim (mv.each v n) [ inl q ↦ trunk_same v q nb | inr r ↦ trunk_new v n follows r ]
      ]
    ];
    used = λ v h. elim (fresh v h) [
      | inl o ↦ ap (λ (x : Row C). x.state) (kept v o) ∙ tree.used v o
      | inr q ↦ ap (state_at k now) q.0 ∙ (ap (λ (x : Row C). x.state) mv.self ∙ q.1)
    ];
  }
