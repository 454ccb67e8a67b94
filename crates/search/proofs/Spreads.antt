-- What following lanes does to the meeting, besides what it does to the rows.
use Rattle.std.proofs.Common.{◌≡◌, ℕ, ◌<◌, Bool, true, false, cond, ◌⊎◌, List, [], ◌∷◌, length, set, Some, Option, sym, refl, ap, ◌∙◌, subst, inl, inr}
use Rattle.std.specs.List.{slice_get}
use Rattle.std.proofs.lemmas.Bool.{cases_eq, cond_both}
use Rattle.cost.specs.Kind.{Kind, Laws}
use Rattle.plant.specs.declared.lane.Lane.{Lane}
use Rattle.plant.specs.Floor.{Floor}
use Rattle.plant.specs.Walk.{lane_cost, lane_head}
use Rattle.search.specs.declared.row.Row.{Row}
use Rattle.search.specs.declared.row.State.TheVariants.{Labelled}
use Rattle.search.specs.Lists.{In}
use Rattle.search.specs.Rows.{below, row_at}
use Rattle.search.specs.Steps.{follow_all, is_relabelled}
use Rattle.search.specs.declared.meeting.Meeting.{Meeting}
use Rattle.search.specs.TwoWay.{Spread, follow_all_meet, follow_meet, meet}
use Rattle.search.proofs.Follows.{Follows, follow_if, follow_lane, follows_label, follows_refl, follows_trans, kept_row, step_if}
use Rattle.search.specs.Order.{Le, below_le, le_eq, le_mono, le_refl, le_trans, not_below}
use Rattle.search.proofs.Outs.{Out}
use Rattle.search.proofs.RowFacts.{row-set_other, row-set-same}

-- c is the cost of a meeting at the head of a lane from e, whose label is g
pub record Crossed {C : Type 0} (k : Kind C) (f : Floor C) (others : List (Row C)) (e : ℕ) (g c : C) : Type 0 where
  pub lane : ℕ
  pub it : Lane C
  pub there : slice_get f.lanes lane ≡ Some it
  pub from : it.tail ≡ e
  pub cost : c ≡ k.join (k.join g it.cost) (row_at k others it.head).label

-- the meeting's cost is at most what both labels of each node make
abbrev pub Under : {C : Type 0} → Kind C → List (Row C) → Spread C → Type 0
Under k others s = (v : ℕ) → Le k s.met.cost (k.join (row_at k s.rows v).label (row_at k others v).label)

-- the meeting's cost is beyond, or no less than both labels of its node make
abbrev pub Exact : {C : Type 0} → Kind C → List (Row C) → Spread C → Type 0
Exact k others s = (s.met.cost ≡ k.beyond) ⊎ Le k (k.join (row_at k s.rows s.met.node).label (row_at k others s.met.node).label) s.met.cost

-- how the rows and the meeting of b come from those of a by following lanes from e, whose label is g
pub record Spreads {C : Type 0} (k : Kind C) (f : Floor C) (others : List (Row C)) (e : ℕ) (g : C) (a b : Spread C) : Type 0 where
  pub follows : Follows k f e g a.rows b.rows
  pub falls : Le k b.met.cost a.met.cost
  pub low : Under k others a → Under k others b
  pub real : (b.met.cost ≡ a.met.cost) ⊎ Crossed k f others e g b.met.cost
  pub exact : Exact k others a → Exact k others b

-- `follow_meet` over the lane itself, where the test has come out as t
abbrev spread_if : {C : Type 0} → Kind C → List (Row C) → C → Spread C → ℕ → Lane C → Bool → Spread C
spread_if k others g s i l t = record {
  rows = follow_if k g s.rows i l t;
  met = cond t (meet k (k.join (k.join g l.cost) (row_at k others l.head).label) l.head s.met) s.met;
}

abbrev met_over : {C : Type 0} → Kind C → List (Row C) → C → Spread C → Option (Lane C) → Meeting C
met_over k others g s o = cond (is_relabelled k (k.join g (lane_cost k o)) (row_at k s.rows (lane_head o))) (meet k (k.join (k.join g (lane_cost k o)) (row_at k others (lane_head o)).label) (lane_head o) s.met) s.met

meet_lane : {C : Type 0} (k : Kind C) (f : Floor C) (others : List (Row C)) (g : C) (s : Spread C) (i : ℕ) (l : Lane C) → slice_get f.lanes i ≡ Some l →
    follow_meet k f others g s i ≡ spread_if k others g s i l (is_relabelled k (k.join g l.cost) (row_at k s.rows l.head))
meet_lane {C} k f others g s i l e = λ j. record { rows = follow_lane k f g s.rows i l e j; met = met_over k others g s (e j) }

-- the rows are those of following alone
pub rows_follow : {C : Type 0} (k : Kind C) (f : Floor C) (others : List (Row C)) (g : C) (is : List ℕ) (s : Spread C) → (follow_all_meet k f others g s is).rows ≡ follow_all k f g s.rows is
rows_follow k f others g [] s = refl
rows_follow k f others g (i ∷ is) s = rows_follow k f others g is (follow_meet k f others g s i)

module _ {C : Type 0} (k : Kind C) (laws : Laws k) where
  meet_falls : (c : C) (w : ℕ) (m : Meeting C) → Le k (meet k c w m).cost m.cost
  meet_falls c w m = cond_both (below k c m.cost) (record { cost = c; node = w }) m (λ (x : Meeting C). Le k x.cost m.cost) (λ h. below_le k laws _ _ h) (λ _. le_refl k laws _)

  meet_low : (c : C) (w : ℕ) (m : Meeting C) → Le k (meet k c w m).cost c
  meet_low c w m = cond_both (below k c m.cost) (record { cost = c; node = w }) m (λ (x : Meeting C). Le k x.cost c) (λ _. le_refl k laws _) (λ h. not_below k laws _ _ h)

  meet_real : (c : C) (w : ℕ) (m : Meeting C) → ((meet k c w m).cost ≡ m.cost) ⊎ ((meet k c w m).cost ≡ c)
  meet_real c w m = cond_both (below k c m.cost) (record { cost = c; node = w }) m (λ (x : Meeting C). (x.cost ≡ m.cost) ⊎ (x.cost ≡ c)) (λ _. inr refl) (λ _. inl refl)

  module _ (f : Floor C) (others : List (Row C)) (e : ℕ) (g : C) where
    spreads_refl : (a : Spread C) → Spreads k f others e g a a
    spreads_refl a = record { follows = follows_refl k laws f e g a.rows; falls = le_refl k laws _; low = λ h. h; real = inl refl; exact = λ h. h }

    real_trans : {x y z : C} → (y ≡ x) ⊎ Crossed k f others e g y → (z ≡ y) ⊎ Crossed k f others e g z → (z ≡ x) ⊎ Crossed k f others e g z
    real_trans (inl p) (inl q) = inl (q ∙ p)
    real_trans (inr p) (inl q) = inr (subst (Crossed k f others e g) (sym q) p)
    real_trans (inl p) (inr q) = inr q
    real_trans (inr p) (inr q) = inr q

    spreads_trans : {a b c : Spread C} → Spreads k f others e g a b → Spreads k f others e g b c → Spreads k f others e g a c
    spreads_trans s t = record {
      follows = follows_trans k laws f e g s.follows t.follows;
      falls = le_trans k laws t.falls s.falls;
      low = λ h. t.low (s.low h);
      real = real_trans s.real t.real;
      exact = λ h. t.exact (s.exact h);
    }

    module _ (s : Spread C) (i : ℕ) (l : Lane C) (there : slice_get f.lanes i ≡ Some l) (from : l.tail ≡ e) (inside : l.head < length s.rows) where
      spreads_if : (t : Bool) → is_relabelled k (k.join g l.cost) (row_at k s.rows l.head) ≡ t → Spreads k f others e g s (spread_if k others g s i l t)
      spreads_if false h =
          let kept = kept_row k laws f e g s.rows i l there from inside in
          record {
            follows = step_if k laws f e g s.rows i l there from inside false h;
            falls = le_refl k laws _;
            low = λ low v. subst (λ (x : Row C). Le k s.met.cost (k.join x.label (row_at k others v).label)) (sym (kept v)) (low v);
            real = inl refl;
            exact = λ ex. elim ex [
              | inl be ↦ inl be
              | inr le ↦ inr (subst (λ (x : Row C). Le k (k.join x.label (row_at k others s.met.node).label) s.met.cost) (sym (kept s.met.node)) le)
            ];
          }
      spreads_if true h =
          let new : Row C = record { label = k.join g l.cost; lane = i; state = Labelled } in
          let cost = k.join (k.join g l.cost) (row_at k others l.head).label in
          let now : List (Row C) = set s.rows l.head new in
          let at : row_at k now l.head ≡ new = row-set-same k s.rows l.head new inside in
          let step : Follows k f e g s.rows now = step_if k laws f e g s.rows i l there from inside true h in
          record {
            follows = step;
            falls = meet_falls cost l.head s.met;
            low = λ low v. elim (cases_eq v l.head) [
              | inl p ↦ subst (λ x. Le k (meet k cost l.head s.met).cost (k.join (row_at k now x).label (row_at k others x).label)) (sym p)
                  (subst (λ (y : Row C). Le k (meet k cost l.head s.met).cost (k.join y.label (row_at k others l.head).label)) (sym at) (meet_low cost l.head s.met))
              | inr n ↦ subst (λ (y : Row C). Le k (meet k cost l.head s.met).cost (k.join y.label (row_at k others v).label)) (sym (row-set_other k s.rows l.head v new n))
                  (le_trans k laws (meet_falls cost l.head s.met) (low v))
            ];
            real = elim (meet_real cost l.head s.met) [ inl p ↦ inl p | inr p ↦ inr (record { lane = i; it = l; there = there; from = from; cost = p }) ];
            exact = λ ex. cond_both (below k cost s.met.cost) (record { cost = cost; node = l.head }) s.met (λ (x : Meeting C). Exact k others (record { rows = now; met = x }))
                (λ _. inr (le_eq k laws (ap (λ (x : Row C). k.join x.label (row_at k others l.head).label) at)))
                (λ _. elim ex [
                  | inl be ↦ inl be
                  | inr le ↦ inr (le_trans k laws (le_mono k laws _ (follows_label k laws f e g step s.met.node)) le)
                ]);
          }

      step_spreads : Spreads k f others e g s (follow_meet k f others g s i)
      step_spreads = subst (Spreads k f others e g s) (sym (meet_lane k f others g s i l there)) (spreads_if _ refl)

    module _ (n : ℕ) (inside : (i : ℕ) (l : Lane C) → slice_get f.lanes i ≡ Some l → l.head < n) where
      pub all_spreads : (is : List ℕ) (s : Spread C) → length s.rows ≡ n → ((i : ℕ) → In i is → Out f e i) → Spreads k f others e g s (follow_all_meet k f others g s is)
      all_spreads [] s h out = spreads_refl s
      all_spreads (i ∷ is) s h out =
          let o = out i (inl refl) in
          let one = step_spreads s i o.it o.there o.from (subst (λ m. o.it.head < m) (sym h) (inside i o.it o.there)) in
          spreads_trans one (all_spreads is (follow_meet k f others g s i) (one.follows.len ∙ h) (λ j m. out j (inr m)))
