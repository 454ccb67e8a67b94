-- What the code of one turn does is what the definition says, and it leaves the side ready.
use Rattle.std.proofs.Common.{◌≡◌, ℕ, ◌+◌, ◌≤◌, true, false, List, length, sym, ap, ◌∙◌, subst, inl, inr, arith, length-set}
use Rattle.std.proofs.lemmas.Bool.{cases_eq}
use Rattle.cost.specs.Kind.{Kind, Laws}
use Rattle.plant.specs.Floor.{Floor, FloorLaws, out_of}
use Rattle.queue.specs.Held.{count, room}
use Rattle.queue.specs.declared.heap.Queue.{Queue}
use Rattle.search.specs.declared.entry.Entry.{Entry}
use Rattle.search.specs.declared.meeting.Meeting.{Meeting}
use Rattle.search.specs.declared.row.Row.{Row}
use Rattle.search.specs.declared.row.State.{State}
use Rattle.search.specs.declared.row.State.TheVariants.{Labelled, Scanned, Dropped}
use Rattle.search.specs.Rows.{is_scanned, row_at}
use Rattle.search.specs.Steps.{mark, scan}
use Rattle.search.specs.Ties.{Front, left_of, Ready, Taken}
use Rattle.search.specs.Turns.{Settles}
use Rattle.search.specs.TwoWay.{Spread, spread, follow_all_meet, both_of}
use Rattle.search.proofs.RowFacts.{row-set-same, row-set_other}
use Rattle.search.proofs.SearchFacts.{mark_left, scan_left, scan_long}
use Rattle.search.proofs.TieFacts.{left_same}
use Rattle.search.proofs.TwoSteps.{settle_skips, settle_drops, settle_follows, go_rows}

abbrev in_state : {C : Type 0} → State → Row C → Row C
in_state s r = record { label = r.label; lane = r.lane; state = s }

module _ {C : Type 0} (k : Kind C) (f : Floor C) (source : ℕ) (rows rows' others : List (Row C)) (last : C) (e : Entry C) (met : Meeting C) where
  pub skipped : is_scanned (row_at k others e.node).state ≡ true → rows' ≡ mark k Scanned rows e.node → Settles k f source rows rows' others last e met met
  skipped p r = λ x. settle_skips k f source (both_of rows x others last met) e p ∙ ap (λ (ys : List (Row C)). both_of ys e.key others last met) (sym r)

  module _ (apart : is_scanned (row_at k others e.node).state ≡ false) (c : C) (is : c ≡ k.join e.label (k.rest last (f.bound source e.node))) where
    pub dropped : k.at_most met.cost c ≡ true → rows' ≡ mark k Dropped rows e.node → Settles k f source rows rows' others last e met met
    dropped q r = λ x. settle_drops k f source (both_of rows x others last met) e apart (ap (k.at_most met.cost) (sym is) ∙ q) ∙ ap (λ (ys : List (Row C)). both_of ys e.key others last met) (sym r)

    pub followed : k.at_most met.cost c ≡ false → (marked : List (Row C)) (met' : Meeting C) → marked ≡ mark k Scanned rows e.node → spread rows' met' ≡ follow_all_meet k f others e.label (spread marked met) (out_of f e.node)
        → Settles k f source rows rows' others last e met met'
    followed q marked met' m s = λ x.
        settle_follows k f source (both_of rows x others last met) e apart (ap (k.at_most met.cost) (sym is) ∙ q)
        ∙ ap (λ (y : Spread C). both_of y.rows e.key others last y.met) (sym (s ∙ ap (λ (ys : List (Row C)). follow_all_meet k f others e.label (spread ys met) (out_of f e.node)) m))

module _ {C : Type 0} (k : Kind C) (laws : Laws k) (f : Floor C) (fl : FloorLaws k f) (target : ℕ) (rows : List (Row C)) {r : _} (q : Queue (Entry C) r) (e : Entry C) (t : Taken k f target rows q e) where
  abbrev u : ℕ
  u = e.node

  marked_long : (s : State) → length (mark k s rows u) ≡ f.nodes
  marked_long s = length-set rows u (in_state s (row_at k rows u)) ∙ t.long

  -- a node that is dropped was not scanned, and is not
  dropped_left : left_of k (mark k Dropped rows u) f.lanes ≡ left_of k rows f.lanes
  dropped_left = left_same k rows (mark k Dropped rows u) (λ v. elim (cases_eq v u) [
    | inl p ↦ subst (λ x. is_scanned (row_at k (mark k Dropped rows u) x).state ≡ is_scanned (row_at k rows x).state) (sym p)
        (ap (λ (r : Row C). is_scanned r.state) (row-set-same k rows u (in_state Dropped (row_at k rows u)) (omega (arith, t.within, t.long))) ∙ sym (ap is_scanned t.live.0))
    | inr n ↦ ap (λ (r : Row C). is_scanned r.state) (row-set_other k rows u v (in_state Dropped (row_at k rows u)) n)
  ]) f.lanes

  scanned_left : left_of k (mark k Scanned rows u) f.lanes + length (out_of f u) ≡ left_of k rows f.lanes
  scanned_left = mark_left k laws f target fl rows t.long u t.within t.live.0

  marked_ready : (s : State) → (s ≡ Labelled → ⊥) → left_of k (mark k s rows u) f.lanes ≤ left_of k rows f.lanes → (rows' : List (Row C)) → rows' ≡ mark k s rows u → Ready k f target rows' q
  marked_ready s done le rows' r = subst (λ (ys : List (Row C)). Ready k f target ys q) (sym r) (record { long = marked_long s; front = t.front s done; fits = omega (arith, le, t.fits) })

  pub skipped_ready : (rows' : List (Row C)) → rows' ≡ mark k Scanned rows u → Ready k f target rows' q
  skipped_ready = marked_ready Scanned (λ p. absurd (let z : ◌≡◌ {A = ℕ} 0 1 = cc in omega arith)) (omega (arith, scanned_left))

  pub dropped_ready : (rows' : List (Row C)) → rows' ≡ mark k Dropped rows u → Ready k f target rows' q
  dropped_ready = marked_ready Dropped (λ p. absurd (let z : ◌≡◌ {A = ℕ} 0 1 = cc in omega arith)) (omega (arith, dropped_left))

  module _ (marked : List (Row C)) (is : marked ≡ mark k Scanned rows u) where
    -- before its lanes are followed
    pub out_room : count q + length (out_of f u) ≤ room q
    out_room = omega (arith, scanned_left, t.fits)

    -- and after
    pub followed_ready : (others rows' : List (Row C)) (met met' : Meeting C) (q' : Queue (Entry C) r) → spread rows' met' ≡ follow_all_meet k f others e.label (spread marked met) (out_of f u)
        → Front k f target rows' q' → count q' ≤ count q + length (out_of f u) → room q' ≡ room q → Ready k f target rows' q'
    followed_ready others rows' met met' q' s front c r =
        let scans : rows' ≡ scan k f rows u = ap (λ (y : Spread C). y.rows) (s ∙ ap (λ (ys : List (Row C)). follow_all_meet k f others e.label (spread ys met) (out_of f u)) is) ∙ go_rows k f target (both_of rows k.zero others k.zero met) e (sym t.live.1) in
        let left = scan_left k laws f target fl rows t.long u t.within t.live.0 in
        let left' : left_of k rows' f.lanes ≡ left_of k (scan k f rows u) f.lanes = ap (λ (ys : List (Row C)). left_of k ys f.lanes) scans in
        record { long = ap length scans ∙ scan_long k laws f target fl rows t.long u t.within t.live.0; front = front; fits = omega (arith, left, left', c, r, t.fits) }
