-- What the invariant says of a step: which node is the next, and what the labels reach.
use Rattle.std.proofs.Common.{◌≡◌, ℕ, suc, ◌<◌, cond, ◌⊎◌, List, Some, None, sym, ap, ◌∙◌, subst, inl, inr, arith}
use Rattle.std.specs.List.{slice_get}
use Rattle.std.proofs.lemmas.Bool.{cases_Bool, cond-true, cond-false}
use Rattle.cost.specs.Kind.{Kind, Laws}
use Rattle.plant.specs.Floor.{Floor, FloorLaws}
use Rattle.search.specs.declared.entry.Entry.{Entry}
use Rattle.search.specs.declared.row.Row.{Row}
use Rattle.search.specs.declared.row.State.TheVariants.{Blank, Labelled, Scanned}
use Rattle.search.specs.Rows.{is_scanned, row_or, row_at}
use Rattle.search.specs.Steps.{scan, count_scanned, in_reach}
use Rattle.search.proofs.At.{label_at, state_at, key_at}
use Rattle.search.proofs.Invariant.{Parent, Core, core_step}
use Rattle.search.specs.Order.{Le, le_trans, le_join, not_below}
use Rattle.search.proofs.Picks.{First, Picked}
use Rattle.search.proofs.Routes.{Above, Traced, traced}
use Rattle.search.proofs.RowFacts.{row_within, row-nth}
use Rattle.search.proofs.Scans.{scanning}
use Rattle.search.proofs.States.{stood_blank, stood_labelled, stood_scanned, stood_dropped, stand, not_scanned, labelled_not_scanned, labelled_not_blank, scanned_not_blank, scanned_or_not}
use Rattle.search.proofs.Treks.{Trek}

-- where a row stands in the order of scans, with those that are yet to be scanned last
pub ranks : {C : Type 0} → Kind C → List (Row C) → (ℕ → ℕ) → ℕ → ℕ
ranks k rows rank v = cond (is_scanned (state_at k rows v)) (rank v) (count_scanned rows)

module _ {C : Type 0} {k : Kind C} (laws : Laws k) {f : Floor C} (fl : FloorLaws k f) {start goal : ℕ} (goal-in : goal < f.nodes) {rows : List (Row C)} (inv : Core k f start goal rows) where
  pub blank_key : (v : ℕ) → state_at k rows v ≡ Blank → Le k k.beyond (key_at k f goal rows v)
  blank_key v b = subst (λ c. Le k k.beyond (k.join c (f.bound v goal))) (sym (inv.far v b)) (le_join k laws k.beyond (f.bound v goal))

  pub row_there : (v : ℕ) → state_at k rows v ≡ Labelled → slice_get rows v ≡ Some (row_at k rows v)
  row_there v o = row-nth k rows v (row_within k rows v (labelled_not_blank (state_at k rows v) o))

  pub none_left : Picked k f goal (in_reach k) 0 rows None → (v : ℕ) → (state_at k rows v ≡ Scanned → ⊥) → Le k k.beyond (key_at k f goal rows v)
  none_left h v n = elim (stand (state_at k rows v)) [
    | stood_blank b ↦ blank_key v b
    | stood_labelled o ↦ not_below k laws (key_at k f goal rows v) k.beyond (h v v (row_at k rows v) (omega arith) (row_there v o) o)
    | stood_scanned s ↦ absurd (n s)
    | stood_dropped d ↦ absurd (inv.undropped v d)
  ]

  module _ (e : Entry C) (first : First k f goal (in_reach k) 0 rows e) where
    pub least_left : (v : ℕ) → (state_at k rows v ≡ Scanned → ⊥) → Le k e.key (key_at k f goal rows v)
    least_left v n = elim (stand (state_at k rows v)) [
      | stood_blank b ↦ past (blank_key v b)
      | stood_labelled o ↦ elim (cases_Bool (in_reach k (key_at k f goal rows v))) [
        | inl a ↦ first.least v v (row_at k rows v) (omega arith) (row_there v o) o a
        | inr a ↦ past (not_below k laws (key_at k f goal rows v) k.beyond a)
      ]
      | stood_scanned s ↦ absurd (n s)
      | stood_dropped d ↦ absurd (inv.undropped v d)
    ]
      where
        past : Le k k.beyond (key_at k f goal rows v) → Le k e.key (key_at k f goal rows v)
        past p = le_trans k laws (laws.beyond_greatest e.key) p

    pub row_is : row_at k rows e.node ≡ first.row
    row_is = let p : e.node ≡ first.place = (let m = first.node in omega arith) in ap (row_at k rows) p ∙ ap (row_or k) first.at

    pub node_state : state_at k rows e.node ≡ Labelled
    node_state = ap (λ (r : Row C). r.state) row_is ∙ first.is_labelled

    pub node_label : e.label ≡ label_at k rows e.node
    node_label = first.label ∙ sym (ap (λ (r : Row C). r.label) row_is)

    pub node_key : e.key ≡ key_at k f goal rows e.node
    node_key = first.key ∙ sym (ap (λ (r : Row C). k.join r.label (f.bound e.node goal)) row_is)

    pub node_in : e.node < f.nodes
    node_in = let p = row_within k rows e.node (labelled_not_blank (state_at k rows e.node) node_state) in let m = inv.long in omega arith

    pub next_core : Core k f start goal (scan k f rows e.node)
    next_core = core_step laws fl goal-in inv
        (scanning k laws f fl e.node rows inv.long node_in (labelled_not_scanned (state_at k rows e.node) node_state))
        node_state
        (λ v o. subst (λ c. Le k c (key_at k f goal rows v)) node_key (least_left v (labelled_not_scanned (state_at k rows v) o)))

    pub counts_next : count_scanned (scan k f rows e.node) ≡ suc (count_scanned rows)
    counts_next = (scanning k laws f fl e.node rows inv.long node_in (labelled_not_scanned (state_at k rows e.node) node_state)).counted

  pub rank_scanned : (v : ℕ) → state_at k rows v ≡ Scanned → ranks k rows inv.rank v ≡ inv.rank v
  unfolding ranks
  rank_scanned v s = cond-true (is_scanned (state_at k rows v)) (inv.rank v) (count_scanned rows) (ap is_scanned s)

  pub rank_left : (v : ℕ) → (state_at k rows v ≡ Scanned → ⊥) → ranks k rows inv.rank v ≡ count_scanned rows
  unfolding ranks
  rank_left v n = cond-false (is_scanned (state_at k rows v)) (inv.rank v) (count_scanned rows) (not_scanned (state_at k rows v) n)

  up : (v : ℕ) → (state_at k rows v ≡ Blank → ⊥) → (v ≡ start) ⊎ Above k f rows (ranks k rows inv.rank) v
  up v b = elim (inv.parent v b) [
    | inl e ↦ inl e
    | inr p ↦ inr (record { over = p.over; at = p.at; into = p.into; seen = scanned_not_blank (state_at k rows p.over.tail) p.done; sum = p.sum; lower = lower p })
  ]
    where
      lower : (p : Parent k f rows inv.rank v) → ranks k rows inv.rank p.over.tail < ranks k rows inv.rank v
      lower p = let a = rank_scanned p.over.tail p.done in elim (scanned_or_not (state_at k rows v)) [
        | inl s ↦ (let c = rank_scanned v s in let m = p.sooner s in omega arith)
        | inr n ↦ (let c = rank_left v n in let m = inv.ranked p.over.tail p.done in omega arith)
      ]

  pub traces : (n v : ℕ) → ranks k rows inv.rank v < n → (state_at k rows v ≡ Blank → ⊥) → Traced k f start rows (ranks k rows inv.rank) n v
  traces n v h s = traced k laws f start rows (ranks k rows inv.rank) inv.first up n v h s

  pub reached : (v : ℕ) → (state_at k rows v ≡ Blank → ⊥) → Trek k f start v (label_at k rows v)
  reached v s = let t = traces (suc (ranks k rows inv.rank v)) v (omega arith) s in record { lanes = t.lanes; walk = t.walk; costs = t.costs }
