-- What holds between the turns of the two-way search, and that a turn keeps it.
use Rattle.std.proofs.Common.{◌≡◌, ℕ, suc, ◌+◌, ◌<◌, Bool, true, false, ◌⊎◌, List, length, Some, sym, refl, ap, ◌∙◌, subst, inl, inr, arith}
use Rattle.std.specs.List.{slice_get}
use Rattle.std.proofs.lemmas.Bool.{cases_eq, both_ways}
use Rattle.cost.specs.Kind.{Kind, Laws}
use Rattle.plant.specs.declared.lane.Lane.{Lane}
use Rattle.plant.specs.Floor.{Floor, FloorLaws, out_of, turned}
use Rattle.plant.specs.FloorFacts.{turned_twice, turned_laws}
use Rattle.search.specs.declared.entry.Entry.{Entry}
use Rattle.search.specs.declared.row.Row.{Row}
use Rattle.search.specs.declared.row.State.{State}
use Rattle.search.specs.declared.row.State.TheVariants.{Blank, Scanned, Dropped}
use Rattle.search.specs.Rows.{is_labelled, is_open, is_scanned, row_or, row_at}
use Rattle.search.specs.Steps.{mark}
use Rattle.search.specs.TwoWay.{Spread, Both, stop_at, spread_from, go_from, settle, flip}
use Rattle.search.proofs.At.{label_at, state_at, key_at, entry_at}
use Rattle.search.proofs.Follows.{all_relaxed}
use Rattle.search.proofs.Moves.{Moved, mark_moved, follows_moved, best_lower, side_lower, side_moved, now_chain}
use Rattle.search.specs.Order.{Le, le_refl, le_trans, le_eq, le_mono_right, le_beyond, beyond_join}
use Rattle.search.proofs.Outs.{out_of_in, out_of_out}
use Rattle.search.proofs.Picks.{First}
use Rattle.search.proofs.RowCounts.{count_open}
use Rattle.search.proofs.RowFacts.{row-set-same, row-set_other, labelled_row, nth_within}
use Rattle.search.proofs.SideFacts.{Closed, Best, Followed, SideInv, picked_best, walk_low, unscanned_low}
use Rattle.search.proofs.Spreads.{Spreads, all_spreads, rows_follow}
use Rattle.search.proofs.States.{labelled_open, open_cases, is_scanned_eq, is_labelled_eq}
use Rattle.search.proofs.Treks.{Trek, trek_append, trek_lane, trek_turned, trek_unturned}

-- the near side goes from s towards t over f, and the far side from t towards s over the turned floor
pub record Inv {C : Type 0} (k : Kind C) (f : Floor C) (s t : ℕ) (b : Both C) : Type 0 where
  pub near : SideInv k f s t b.near.rows b.near.last b.met.cost
  pub far : SideInv k (turned f) t s b.far.rows b.far.last b.met.cost
  pub low : (v : ℕ) → Le k b.met.cost (k.join (label_at k b.near.rows v) (label_at k b.far.rows v))
  pub real : (b.met.cost ≡ k.beyond) ⊎ Trek k f s t b.met.cost

abbrev pub count : {C : Type 0} → Both C → ℕ
count b = count_open b.near.rows + count_open b.far.rows

-- what holds after a turn
pub record Settled {C : Type 0} (k : Kind C) (f : Floor C) (s t : ℕ) (b now : Both C) : Type 0 where
  pub inv : Inv k f s t now
  pub fewer : suc (count_open now.near.rows) + count_open now.far.rows ≡ count b

-- what is known of a picked node
pub record Chosen {C : Type 0} (k : Kind C) (f : Floor C) (t : ℕ) (rows : List (Row C)) (v : ℕ) : Type 0 where
  pub labels : is_labelled (state_at k rows v) ≡ true
  pub low : (u : ℕ) → is_open (state_at k rows u) ≡ true → Le k (key_at k f t rows v) (key_at k f t rows u)

-- what the near side makes of the lanes out of e
abbrev pub spread_at : {C : Type 0} → Kind C → Floor C → ℕ → Both C → ℕ → Spread C
spread_at k f t b e = spread_from k f b (entry_at k f t b.near.rows e)

module _ {C : Type 0} {k : Kind C} (laws : Laws k) where
  pub inv_flip : {f : Floor C} {s t : ℕ} {b : Both C} → Inv k f s t b → Inv k (turned f) t s (flip b)
  inv_flip {f} {s} {t} {b} inv = record {
    near = inv.far;
    far = subst (λ x. SideInv k x s t b.near.rows b.near.last b.met.cost) (sym (turned_twice f)) inv.near;
    low = λ v. subst (Le k b.met.cost) (laws.join_comm _ _) (inv.low v);
    real = elim inv.real [ inl h ↦ inl h | inr w ↦ inr (trek_turned k laws w) ];
  }

  -- the label that a blank row stands for is no less than any
  pub open_key : {f : Floor C} {s t : ℕ} {rows : List (Row C)} {last m : C} → SideInv k f s t rows last m → (u : ℕ) → state_at k rows u ≡ Blank → (c : C) → Le k c (key_at k f t rows u)
  open_key {f} {s} {t} inv u h c = le_beyond k laws (le_eq k laws (sym (ap (λ x. k.join x (f.bound u t)) (inv.void u h) ∙ beyond_join k laws _)))

  pub chosen : {f : Floor C} {s t : ℕ} {rows : List (Row C)} {last m : C} → SideInv k f s t rows last m → (e : Entry C) → First k f t (λ _. true) 0 rows e → (e ≡ entry_at k f t rows e.node) × Chosen k f t rows e.node
  chosen {f} {s} {t} {rows} inv e p =
      let n : p.place ≡ e.node = omega (arith, p.node) in
      let here : row_at k rows e.node ≡ p.row = ap (row_at k rows) (sym n) ∙ ap (row_or k) p.at in
      let lab : e.label ≡ label_at k rows e.node = p.label ∙ ap (λ (r : Row C). r.label) (sym here) in
      let key : e.key ≡ key_at k f t rows e.node = p.key ∙ ap (λ (r : Row C). k.join r.label (f.bound e.node t)) (sym here) in (
        (λ i. record { key = key i; label = lab i; node = e.node }),
        record {
          labels = ap (λ (r : Row C). is_labelled r.state) here ∙ ap is_labelled p.is_labelled;
          low = λ u o. elim (open_cases _ o) [
            | inl b ↦ open_key inv u b _
            | inr l ↦ subst (λ x. Le k x (key_at k f t rows u)) key (p.least u u _ (omega arith) (labelled_row k rows u l) (is_labelled_eq _ l) refl)
          ];
        },
      )

  module _ {f : Floor C} (fl : FloorLaws k f) {s t : ℕ} (s-in : s < f.nodes) (t-in : t < f.nodes) {b : Both C} (inv : Inv k f s t b) where
    met_target : Le k b.met.cost (label_at k b.near.rows t)
    met_target = le_trans k laws (inv.low t) (le_trans k laws (le_mono_right k laws _ inv.far.source) (le_eq k laws (laws.join_zero _)))

    -- where each open node's key is at least c, and the meeting's cost is too, each walk costs at least c
    pub all_under : (c : C) → Le k c b.met.cost → ((v : ℕ) → is_open (state_at k b.near.rows v) ≡ true → Le k c (key_at k f t b.near.rows v)) → (d : C) → Trek k f s t d → Le k c d
    all_under c h low d w = elim (walk_low laws fl t-in inv.near met_target d w) [
      | inl x ↦ le_trans k laws h x
      | inr x ↦ le_trans k laws (low x.0 x.1) x.2
    ]

    module _ {e : ℕ} (ch : Chosen k f t b.near.rows e) where
      best : Best k f s t b.met.cost e (label_at k b.near.rows e)
      best = picked_best laws fl t-in inv.near e ch.low

      pub opened : is_open (state_at k b.near.rows e) ≡ true
      opened = labelled_open _ ch.labels

      pub inside : e < length b.near.rows
      inside = nth_within b.near.rows e _ (labelled_row k b.near.rows e ch.labels)

      -- a node that the other side has scanned
      closed_skip : state_at k b.far.rows e ≡ Scanned → Closed k f s t b.met.cost e
      closed_skip sc a c ta tc = elim (best a c ta tc) [
        | inl h ↦ h
        | inr h ↦ elim (inv.far.settled e sc) [
          | inl cl ↦ subst (Le k b.met.cost) (laws.join_comm c a) (cl c a (trek_turned k laws tc) (trek_turned k laws ta))
          | inr fo ↦ elim (inv.near.reach e) [
            | inl be ↦ le_beyond k laws (le_trans k laws (le_eq k laws (sym (ap (λ x. k.join x c) be ∙ beyond_join k laws c))) h)
            | inr w ↦ elim (fo.best c (label_at k b.near.rows e) (trek_turned k laws tc) (trek_turned k laws w)) [
              | inl x ↦ le_trans k laws x (le_trans k laws (le_eq k laws (laws.join_comm _ _)) h)
              | inr x ↦ le_trans k laws (le_trans k laws (inv.low e) (le_eq k laws (laws.join_comm _ _))) (le_trans k laws x (le_trans k laws (le_eq k laws (laws.join_comm _ _)) h))
            ]
          ]
        ]
      ]

      -- a node from which the other side is too far off
      closed_drop : (state_at k b.far.rows e ≡ Scanned → ⊥) → Le k b.met.cost (k.join (label_at k b.near.rows e) (k.rest b.far.last (f.bound s e))) → Closed k f s t b.met.cost e
      closed_drop un dear a c ta tc = elim (best a c ta tc) [
        | inl h ↦ h
        | inr h ↦ elim (unscanned_low laws (turned_laws laws fl) s-in inv.far e un c a (trek_turned k laws tc) (trek_turned k laws ta)) [
          | inl x ↦ le_trans k laws x (le_eq k laws (laws.join_comm c a))
          | inr x ↦
              let covers = laws.rest_covers b.far.last (f.bound s e) c (le_trans k laws x (le_eq k laws (laws.join_comm _ _))) in
              le_trans k laws dear (le_trans k laws (le_mono_right k laws (label_at k b.near.rows e) covers) h)
        ]
      ]

      pub stopped : (st : State) → is_open st ≡ false → Moved k f e st b.near.rows (mark k st b.near.rows e)
      stopped st shut = mark_moved k f e st b.near.rows inside opened shut

      pub mark_label : (st : State) (v : ℕ) → label_at k (mark k st b.near.rows e) v ≡ label_at k b.near.rows v
      mark_label st v = elim (cases_eq v e) [
        | inl p ↦ subst (λ x. label_at k (mark k st b.near.rows e) x ≡ label_at k b.near.rows x) (sym p) (ap (λ (r : Row C). r.label) (row-set-same k b.near.rows e _ inside))
        | inr n ↦ ap (λ (r : Row C). r.label) (row-set_other k b.near.rows e v _ n)
      ]

      mark_low : (st : State) (v : ℕ) → Le k b.met.cost (k.join (label_at k (mark k st b.near.rows e) v) (label_at k b.far.rows v))
      mark_low st v = subst (λ x. Le k b.met.cost (k.join x (label_at k b.far.rows v))) (sym (mark_label st v)) (inv.low v)

      pub spread : Spreads k f b.far.rows e (label_at k b.near.rows e) (record { rows = mark k Scanned b.near.rows e; met = b.met }) (spread_at k f t b e)
      spread = all_spreads k laws f b.far.rows e (label_at k b.near.rows e) f.nodes fl.head_node (out_of f e) (record { rows = mark k Scanned b.near.rows e; met = b.met }) ((stopped Scanned refl).len ∙ inv.near.long) (out_of_out f e)

      pub moved : Moved k f e Scanned b.near.rows (spread_at k f t b e).rows
      moved = follows_moved (stopped Scanned refl) spread.follows

      relaxed : (i : ℕ) (l : Lane C) → slice_get f.lanes i ≡ Some l → l.tail ≡ e → is_open (state_at k (spread_at k f t b e).rows l.head) ≡ true → Le k (label_at k (spread_at k f t b e).rows l.head) (k.join (label_at k b.near.rows e) l.cost)
      relaxed i l there from o =
          let marked : Spread C = record { rows = mark k Scanned b.near.rows e; met = b.met } in
          let was : is_open (state_at k marked.rows l.head) ≡ true = elim (spread.follows.each l.head) [ inl p ↦ ap (λ (r : Row C). is_open r.state) (sym p) ∙ o | inr r ↦ r.was_open ] in
          subst (λ (rs : List (Row C)). Le k (label_at k rs l.head) (k.join (label_at k b.near.rows e) l.cost)) (sym (rows_follow k f b.far.rows (label_at k b.near.rows e) (out_of f e) marked))
          (all_relaxed k laws f e (label_at k b.near.rows e) f.nodes fl.head_node (out_of f e) marked.rows ((stopped Scanned refl).len ∙ inv.near.long) (out_of_out f e) i l (out_of_in f e i l there from) there from was)

      go_followed : Followed k f s t (spread_at k f t b e).rows (spread_at k f t b e).met.cost e
      go_followed = record {
        chain = now_chain laws fl t-in inv.near moved spread.falls opened refl ch.low relaxed;
        best = subst (Best k f s t (spread_at k f t b e).met.cost e) (ap (λ (r : Row C). r.label) (sym moved.self)) (best_lower laws spread.falls best);
      }

      go_real : ((spread_at k f t b e).met.cost ≡ k.beyond) ⊎ Trek k f s t (spread_at k f t b e).met.cost
      go_real = elim spread.real [
        | inl p ↦ subst (λ x. (x ≡ k.beyond) ⊎ Trek k f s t x) (sym p) inv.real
        | inr x ↦ subst (λ y. (y ≡ k.beyond) ⊎ Trek k f s t y) (sym x.cost) (elim (inv.near.reach e) [
          | inl be ↦ inl (ap (λ y. k.join (k.join y x.it.cost) (label_at k b.far.rows x.it.head)) be ∙ (ap (λ y. k.join y (label_at k b.far.rows x.it.head)) (beyond_join k laws _) ∙ beyond_join k laws _))
          | inr w ↦ elim (inv.far.reach x.it.head) [
            | inl be ↦ inl (ap (k.join (k.join (label_at k b.near.rows e) x.it.cost)) be ∙ (laws.join_comm _ _ ∙ beyond_join k laws _))
            | inr v ↦ inr (trek_append k laws (trek_append k laws w (subst (λ y. Trek k f y x.it.head x.it.cost) x.from (trek_lane k laws f x.lane x.it x.there))) (trek_unturned k laws v))
          ]
        ])
      ]

      module _ (less : Le k (key_at k f t b.near.rows e) b.met.cost) where
        stop_inv : (st : State) → is_open st ≡ false → Closed k f s t b.met.cost e → Settled k f s t b (stop_at k st b (entry_at k f t b.near.rows e))
        stop_inv st shut cl = record {
          inv = record {
            near = side_moved laws fl t-in inv.near (stopped st shut) (le_refl k laws _) opened shut ch.low (λ _. inl cl) (λ _. cl) (all_under _ less ch.low);
            far = inv.far;
            low = mark_low st;
            real = inv.real;
          };
          fewer = ap (λ n. n + count_open b.far.rows) (stopped st shut).opens;
        }

        go_inv : Settled k f s t b (go_from k f b (entry_at k f t b.near.rows e))
        go_inv = record {
          inv = record {
            near = side_moved laws fl t-in inv.near moved spread.falls opened refl ch.low (λ _. inr go_followed) (λ h. absurd (both_ways true (ap is_scanned h) refl)) (all_under _ less ch.low);
            far = side_lower laws spread.falls inv.far;
            low = spread.low (mark_low Scanned);
            real = go_real;
          };
          fewer = ap (λ n. n + count_open b.far.rows) moved.opens;
        }

        pub settled : Settled k f s t b (settle k f s b (entry_at k f t b.near.rows e))
        settled = go (is_scanned (state_at k b.far.rows e)) refl (k.at_most b.met.cost (k.join (label_at k b.near.rows e) (k.rest b.far.last (f.bound s e)))) refl
          where
            go : (x : Bool) → is_scanned (state_at k b.far.rows e) ≡ x → (y : Bool) → k.at_most b.met.cost (k.join (label_at k b.near.rows e) (k.rest b.far.last (f.bound s e))) ≡ y →
                Settled k f s t b (elim x [ true ↦ stop_at k Scanned b (entry_at k f t b.near.rows e) | false ↦ elim y [ true ↦ stop_at k Dropped b (entry_at k f t b.near.rows e) | false ↦ go_from k f b (entry_at k f t b.near.rows e) ] ])
            go true p y q = stop_inv Scanned refl (closed_skip (is_scanned_eq _ p))
            go false p true q = stop_inv Dropped refl (closed_drop (λ h. both_ways _ p (ap is_scanned h)) q)
            go false p false q = go_inv
