-- A side of the two-way search after one of its turns.
use Rattle.std.proofs.Common.{◌≡◌, ℕ, suc, ◌<◌, Bool, true, false, ◌⊎◌, List, length, Some, sym, refl, ap, ◌∙◌, subst, inl, inr, length-set}
use Rattle.std.specs.List.{slice_get}
use Rattle.std.proofs.lemmas.Bool.{cases_eq, both_ways}
use Rattle.cost.specs.Kind.{Kind, Laws}
use Rattle.plant.specs.declared.lane.Lane.{Lane}
use Rattle.plant.specs.Floor.{Floor, FloorLaws}
use Rattle.search.specs.declared.row.Row.{Row}
use Rattle.search.specs.declared.row.State.{State}
use Rattle.search.specs.declared.row.State.TheVariants.{Blank, Scanned, Dropped}
use Rattle.search.specs.Rows.{is_labelled, is_open, row_at}
use Rattle.search.specs.Steps.{mark}
use Rattle.search.proofs.At.{label_at, state_at, key_at}
use Rattle.search.proofs.Follows.{Relabelled, Kept, Follows}
use Rattle.search.specs.Order.{Le, le_trans, le_eq, le_mono, le_mono_right, beyond_join}
use Rattle.search.proofs.RowCounts.{count_open, open_set_less}
use Rattle.search.proofs.RowFacts.{row-set-same, row-set_other}
use Rattle.search.proofs.SideFacts.{Closed, Best, Followed, SideInv}
use Rattle.search.proofs.Treks.{Trek, trek_append, trek_lane}

-- e has gone into state st, and its lanes may have been followed
pub record Moved {C : Type 0} (k : Kind C) (f : Floor C) (e : ℕ) (st : State) (rows now : List (Row C)) : Type 0 where
  pub len : length now ≡ length rows
  pub opens : suc (count_open now) ≡ count_open rows
  pub self : row_at k now e ≡ record { label = label_at k rows e; lane = (row_at k rows e).lane; state = st }
  pub each : (v : ℕ) → (v ≡ e → ⊥) → Kept k f e (label_at k rows e) v (row_at k rows v) (row_at k now v)

pub mark_moved : {C : Type 0} (k : Kind C) (f : Floor C) (e : ℕ) (st : State) (rows : List (Row C)) → e < length rows → is_open (state_at k rows e) ≡ true → is_open st ≡ false → Moved k f e st rows (mark k st rows e)
mark_moved k f e st rows h o c = record {
  len = length-set _ _ _;
  opens = open_set_less k rows e _ h o c;
  self = row-set-same k rows e _ h;
  each = λ v n. inl (row-set_other k rows e v _ n);
}

pub follows_moved : {C : Type 0} {k : Kind C} {f : Floor C} {e : ℕ} {rows now : List (Row C)} → Moved k f e Scanned rows (mark k Scanned rows e) → Follows k f e (label_at k rows e) (mark k Scanned rows e) now → Moved k f e Scanned rows now
follows_moved {C} {k} {f} {e} {rows} {now} mv fo = record {
  len = fo.len ∙ mv.len;
  opens = ap suc fo.opens ∙ mv.opens;
  self = elim (fo.each e) [ inl p ↦ p ∙ mv.self | inr r ↦ absurd (both_ways _ (ap (λ (x : Row C). is_open x.state) mv.self) r.was_open) ];
  each = λ v n.
      let q = row-set_other k rows e v (record { label = label_at k rows e; lane = (row_at k rows e).lane; state = Scanned }) n in
      elim (fo.each v) [
        | inl p ↦ inl (p ∙ q)
        | inr r ↦ inr (subst (λ (x : Row C). Relabelled k f e (label_at k rows e) v x (row_at k now v)) q r)
      ];
}

module _ {C : Type 0} {k : Kind C} (laws : Laws k) where
  closed_lower : {f : Floor C} {s t v : ℕ} {m now : C} → Le k now m → Closed k f s t m v → Closed k f s t now v
  closed_lower h cl a b ta tb = le_trans k laws h (cl a b ta tb)

  pub best_lower : {f : Floor C} {s t v : ℕ} {m now g : C} → Le k now m → Best k f s t m v g → Best k f s t now v g
  best_lower h best a b ta tb = elim (best a b ta tb) [ inl x ↦ inl (le_trans k laws h x) | inr x ↦ inr x ]

  -- a side as the meeting falls
  pub side_lower : {f : Floor C} {s t : ℕ} {rows : List (Row C)} {last m now : C} → Le k now m → SideInv k f s t rows last m → SideInv k f s t rows last now
  side_lower h inv = record {
    long = inv.long;
    void = inv.void;
    reach = inv.reach;
    source = inv.source;
    last_low = inv.last_low;
    last_high = inv.last_high;
    settled = λ v sc. elim (inv.settled v sc) [ inl cl ↦ inl (closed_lower h cl) | inr fo ↦ inr (record { chain = fo.chain; best = best_lower h fo.best }) ];
    gone = λ v d. closed_lower h (inv.gone v d);
    scans = inv.scans;
  }

  module _ {f : Floor C} (fl : FloorLaws k f) {s t : ℕ} (t-in : t < f.nodes) {rows now : List (Row C)} {last m met : C} (inv : SideInv k f s t rows last m) {e : ℕ} {st : State} (mv : Moved k f e st rows now)
      (under : Le k met m) (opened : is_open (state_at k rows e) ≡ true) (shut : is_open st ≡ false)
      (low : (v : ℕ) → is_open (state_at k rows v) ≡ true → Le k (key_at k f t rows e) (key_at k f t rows v)) where
    moved_label : label_at k now e ≡ label_at k rows e
    moved_label = ap (λ (x : Row C). x.label) mv.self

    moved_state : state_at k now e ≡ st
    moved_state = ap (λ (x : Row C). x.state) mv.self

    falls : (v : ℕ) → Le k (label_at k now v) (label_at k rows v)
    falls v = elim (cases_eq v e) [
      | inl p ↦ subst (λ x. Le k (label_at k now x) (label_at k rows x)) (sym p) (le_eq k laws moved_label)
      | inr n ↦ elim (mv.each v n) [
        | inl q ↦ le_eq k laws (ap (λ (x : Row C). x.label) q)
        | inr r ↦ le_trans k laws (le_eq k laws (ap (λ (x : Row C). x.label) r.row)) r.less
      ]
    ]

    not_self : (v : ℕ) → is_open (state_at k now v) ≡ true → v ≡ e → ⊥
    not_self v o p = both_ways _ (ap (λ x. is_open (state_at k now x)) p ∙ (ap is_open moved_state ∙ shut)) o

    open_was : (v : ℕ) → is_open (state_at k now v) ≡ true → is_open (state_at k rows v) ≡ true
    open_was v o = elim (mv.each v (not_self v o)) [ inl q ↦ ap (λ (x : Row C). is_open x.state) (sym q) ∙ o | inr r ↦ r.was_open ]

    -- a row that is not open is e's or is as it was
    closed_was : (v : ℕ) → is_open (state_at k now v) ≡ false → (v ≡ e) ⊎ (row_at k now v ≡ row_at k rows v)
    closed_was v c = elim (cases_eq v e) [
      | inl p ↦ inl p
      | inr n ↦ elim (mv.each v n) [
        | inl q ↦ inr q
        | inr r ↦ absurd (both_ways _ c (ap (λ (x : Row C). is_open x.state) r.row))
      ]
    ]

    state_was : (v : ℕ) (x : State) → is_open x ≡ false → state_at k now v ≡ x → (v ≡ e) ⊎ ((row_at k now v ≡ row_at k rows v) × (state_at k rows v ≡ x))
    state_was v x c h = elim (closed_was v (ap is_open h ∙ c)) [ inl p ↦ inl p | inr q ↦ inr (q, ap (λ (r : Row C). r.state) (sym q) ∙ h) ]

    -- the key of e is at most that of the head of a lane from e
    key_out : (i : ℕ) (l : Lane C) → slice_get f.lanes i ≡ Some l → l.tail ≡ e → Le k (key_at k f t rows e) (k.join (k.join (label_at k rows e) l.cost) (f.bound l.head t))
    key_out i l there from = le_trans k laws (le_mono_right k laws (label_at k rows e) (subst (λ x. Le k (f.bound x t) (k.join l.cost (f.bound l.head t))) from (fl.bound_out i l t there t-in))) (le_eq k laws (sym (laws.join_assoc _ _ _)))

    now_low : (v : ℕ) → is_open (state_at k now v) ≡ true → Le k (key_at k f t rows e) (key_at k f t now v)
    now_low v o = elim (mv.each v (not_self v o)) [
      | inl q ↦ subst (λ (x : Row C). Le k (key_at k f t rows e) (k.join x.label (f.bound v t))) (sym q) (low v (open_was v o))
      | inr r ↦ subst (λ x. Le k (key_at k f t rows e) (k.join x (f.bound v t))) (ap (λ (x : Row C). x.label) (sym r.row))
          (subst (λ x. Le k (key_at k f t rows e) (k.join (k.join (label_at k rows e) r.it.cost) (f.bound x t))) r.into (key_out r.lane r.it r.there r.from))
    ]

    now_high : (v : ℕ) → is_open (state_at k now v) ≡ false → Le k (key_at k f t now v) (key_at k f t rows e)
    now_high v c = elim (closed_was v c) [
      | inl p ↦ subst (λ x. Le k (key_at k f t now x) (key_at k f t rows e)) (sym p) (le_eq k laws (ap (λ x. k.join x (f.bound e t)) moved_label))
      | inr q ↦ le_trans k laws (le_eq k laws (ap (λ (x : Row C). k.join x.label (f.bound v t)) q)) (le_trans k laws (inv.last_high v (ap (λ (x : Row C). is_open x.state) (sym q) ∙ c)) (inv.last_low e opened))
    ]

    -- lanes from e lead on as they should, where each open head has been relabelled
    pub now_chain : ((i : ℕ) (l : Lane C) → slice_get f.lanes i ≡ Some l → l.tail ≡ e → is_open (state_at k now l.head) ≡ true → Le k (label_at k now l.head) (k.join (label_at k rows e) l.cost)) →
        (i : ℕ) (l : Lane C) → slice_get f.lanes i ≡ Some l → l.tail ≡ e → Le k (key_at k f t now l.head) (k.join (k.join (label_at k now e) l.cost) (f.bound l.head t))
    now_chain relaxed i l there from = go (is_open (state_at k now l.head)) refl
      where
        go : (x : Bool) → is_open (state_at k now l.head) ≡ x → Le k (key_at k f t now l.head) (k.join (k.join (label_at k now e) l.cost) (f.bound l.head t))
        go true o = subst (λ x. Le k (key_at k f t now l.head) (k.join (k.join x l.cost) (f.bound l.head t))) (sym moved_label) (le_mono k laws _ (relaxed i l there from o))
        go false o = subst (λ x. Le k (key_at k f t now l.head) (k.join (k.join x l.cost) (f.bound l.head t))) (sym moved_label) (le_trans k laws (now_high l.head o) (key_out i l there from))

    now_reach : (v : ℕ) → (label_at k now v ≡ k.beyond) ⊎ Trek k f s v (label_at k now v)
    now_reach v = elim (cases_eq v e) [
      | inl p ↦ subst (λ x. (label_at k now x ≡ k.beyond) ⊎ Trek k f s x (label_at k now x)) (sym p) (subst (λ x. (x ≡ k.beyond) ⊎ Trek k f s e x) (sym moved_label) (inv.reach e))
      | inr n ↦ elim (mv.each v n) [
        | inl q ↦ subst (λ (x : Row C). (x.label ≡ k.beyond) ⊎ Trek k f s v x.label) (sym q) (inv.reach v)
        | inr r ↦ subst (λ (x : Row C). (x.label ≡ k.beyond) ⊎ Trek k f s v x.label) (sym r.row) (elim (inv.reach e) [
          | inl b ↦ inl (ap (λ x. k.join x r.it.cost) b ∙ beyond_join k laws _)
          | inr w ↦ inr (trek_append k laws w (subst (λ x. Trek k f x v r.it.cost) r.from (subst (λ x. Trek k f r.it.tail x r.it.cost) r.into (trek_lane k laws f r.lane r.it r.there))))
        ])
      ]
    ]

    now_void : (v : ℕ) → state_at k now v ≡ Blank → label_at k now v ≡ k.beyond
    now_void v h = elim (mv.each v (not_self v (ap is_open h))) [
      | inl q ↦ ap (λ (x : Row C). x.label) q ∙ inv.void v (ap (λ (x : Row C). x.state) (sym q) ∙ h)
      | inr r ↦ absurd (both_ways _ (ap is_labelled h) (ap (λ (x : Row C). is_labelled x.state) r.row))
    ]

    -- what was followed stays so
    now_followed : (v : ℕ) → row_at k now v ≡ row_at k rows v → Followed k f s t rows m v → Followed k f s t now met v
    now_followed v q fo = record {
      chain = λ i l there from. subst (λ (x : Row C). Le k (key_at k f t now l.head) (k.join (k.join x.label l.cost) (f.bound l.head t))) (sym q) (le_trans k laws (le_mono k laws _ (falls l.head)) (fo.chain i l there from));
      best = subst (λ (x : Row C). Best k f s t met v x.label) (sym q) (best_lower under fo.best);
    }

    pub side_moved : (st ≡ Scanned → Closed k f s t met e ⊎ Followed k f s t now met e) → (st ≡ Dropped → Closed k f s t met e) → ((c : C) → Trek k f s t c → Le k (key_at k f t rows e) c) → SideInv k f s t now (key_at k f t rows e) met
    side_moved mine lost under_all = record {
      long = mv.len ∙ inv.long;
      void = now_void;
      reach = now_reach;
      source = le_trans k laws (falls s) inv.source;
      last_low = now_low;
      last_high = now_high;
      settled = λ v h. elim (state_was v Scanned refl h) [
        | inl p ↦ subst (λ x. Closed k f s t met x ⊎ Followed k f s t now met x) (sym p) (mine (sym moved_state ∙ (ap (state_at k now) (sym p) ∙ h)))
        | inr q ↦ elim (inv.settled v q.1) [ inl cl ↦ inl (closed_lower under cl) | inr fo ↦ inr (now_followed v q.0 fo) ]
      ];
      gone = λ v h. elim (state_was v Dropped refl h) [
        | inl p ↦ subst (Closed k f s t met) (sym p) (lost (sym moved_state ∙ (ap (state_at k now) (sym p) ∙ h)))
        | inr q ↦ closed_lower under (inv.gone v q.1)
      ];
      scans = λ v h c w. elim (state_was v Scanned refl h) [
        | inl p ↦ subst (λ x. Le k (key_at k f t now x) c) (sym p) (subst (λ x. Le k (k.join x (f.bound e t)) c) (sym moved_label) (under_all c w))
        | inr q ↦ subst (λ (x : Row C). Le k (k.join x.label (f.bound v t)) c) (sym q.0) (inv.scans v q.1 c w)
      ];
    }
