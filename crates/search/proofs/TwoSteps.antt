-- One turn of the two-way search, under the outcome of its tests.
use Rattle.std.proofs.Common.{◌≡◌, ℕ, suc, Bool, true, false, Some, None, Option, ap, ◌∙◌}
use Rattle.cost.specs.Kind.{Kind}
use Rattle.plant.specs.Floor.{Floor, out_of, turned}
use Rattle.plant.specs.FloorFacts.{turned_twice}
use Rattle.search.specs.declared.entry.Entry.{Entry}
use Rattle.search.specs.declared.row.State.TheVariants.{Scanned, Dropped}
use Rattle.search.specs.Rows.{is_scanned, row_at}
use Rattle.search.specs.Steps.{pick, mark, scan, follow_all}
use Rattle.search.specs.TwoWay.{Both, stop_at, go_from, settle, flip, two_from}
use Rattle.search.proofs.Spreads.{rows_follow}

module _ {C : Type 0} (k : Kind C) (f : Floor C) (source target : ℕ) (n : ℕ) (b : Both C) where
  after_test : Entry C → Bool → Both C
  after_test e x = elim x [ true ↦ b | false ↦ flip (two_from k (turned f) target source n (flip (settle k f source b e))) ]

  after_pick : Option (Entry C) → Both C
  after_pick o = elim o [
    | None ↦ b
    | Some e ↦ elim (k.at_most b.met.cost e.key) [ true ↦ b | false ↦ flip (two_from k (turned f) target source n (flip (settle k f source b e))) ]
  ]

  -- no node is left to pick
  pub two_ends : pick k f target (λ _. true) b.near.rows ≡ None → two_from k f source target (suc n) b ≡ b
  unfolding after_pick
  two_ends p = ap after_pick p

  -- the first node's key is no less than what was met
  pub two_stops : (e : Entry C) → pick k f target (λ _. true) b.near.rows ≡ Some e → k.at_most b.met.cost e.key ≡ true → two_from k f source target (suc n) b ≡ b
  unfolding after_pick after_test
  two_stops e p h = ap after_pick p ∙ ap (after_test e) h

  -- the first node is settled, and it is the other side's turn
  pub two_turns : (e : Entry C) → pick k f target (λ _. true) b.near.rows ≡ Some e → k.at_most b.met.cost e.key ≡ false →
      two_from k f source target (suc n) b ≡ flip (two_from k (turned f) target source n (flip (settle k f source b e)))
  unfolding after_pick after_test
  two_turns e p h = ap after_pick p ∙ ap (after_test e) h

-- the far side's turn: the floor is turned round for it, and back after it
module _ {C : Type 0} (k : Kind C) (f : Floor C) (source target : ℕ) (n : ℕ) (b : Both C) where
  pub back_ends : pick k (turned f) source (λ _. true) b.far.rows ≡ None → flip (two_from k (turned f) target source (suc n) (flip b)) ≡ b
  back_ends p = ap flip (two_ends k (turned f) target source n (flip b) p)

  pub back_stops : (e : Entry C) → pick k (turned f) source (λ _. true) b.far.rows ≡ Some e → k.at_most b.met.cost e.key ≡ true → flip (two_from k (turned f) target source (suc n) (flip b)) ≡ b
  back_stops e p h = ap flip (two_stops k (turned f) target source n (flip b) e p h)

  pub back_turns : (e : Entry C) → pick k (turned f) source (λ _. true) b.far.rows ≡ Some e → k.at_most b.met.cost e.key ≡ false →
      flip (two_from k (turned f) target source (suc n) (flip b)) ≡ two_from k f source target n (flip (settle k (turned f) target (flip b) e))
  back_turns e p h = ap flip (two_turns k (turned f) target source n (flip b) e p h) ∙ ap (λ (x : Floor C). two_from k x source target n (flip (settle k (turned f) target (flip b) e))) (turned_twice f)

-- what is done with the picked node
module _ {C : Type 0} (k : Kind C) (f : Floor C) (source : ℕ) (b : Both C) (e : Entry C) where
  on_drop : Bool → Both C
  on_drop y = elim y [ true ↦ stop_at k Dropped b e | false ↦ go_from k f b e ]

  on_scan : Bool → Both C
  on_scan x = elim x [
    | true ↦ stop_at k Scanned b e
    | false ↦ elim (k.at_most b.met.cost (k.join e.label (k.rest b.far.last (f.bound source e.node)))) [ true ↦ stop_at k Dropped b e | false ↦ go_from k f b e ]
  ]

  -- the other side has scanned it
  pub settle_skips : is_scanned (row_at k b.far.rows e.node).state ≡ true → settle k f source b e ≡ stop_at k Scanned b e
  unfolding on_scan
  settle_skips p = ap on_scan p

  -- the other side is too far off
  pub settle_drops : is_scanned (row_at k b.far.rows e.node).state ≡ false → k.at_most b.met.cost (k.join e.label (k.rest b.far.last (f.bound source e.node))) ≡ true → settle k f source b e ≡ stop_at k Dropped b e
  unfolding on_scan on_drop
  settle_drops p q = ap on_scan p ∙ ap on_drop q

  pub settle_follows : is_scanned (row_at k b.far.rows e.node).state ≡ false → k.at_most b.met.cost (k.join e.label (k.rest b.far.last (f.bound source e.node))) ≡ false → settle k f source b e ≡ go_from k f b e
  unfolding on_scan on_drop
  settle_follows p q = ap on_scan p ∙ ap on_drop q

  -- where it is followed, the near rows are those of its scan
  pub go_rows : e.label ≡ (row_at k b.near.rows e.node).label → (go_from k f b e).near.rows ≡ scan k f b.near.rows e.node
  go_rows p =
      rows_follow k f b.far.rows e.label (out_of f e.node) (record { rows = mark k Scanned b.near.rows e.node; met = b.met })
      ∙ ap (λ (g : C). follow_all k f g (mark k Scanned b.near.rows e.node) (out_of f e.node)) p
