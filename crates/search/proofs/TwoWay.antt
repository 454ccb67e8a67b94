-- The two-way search finds the least cost.
use Rattle.std.proofs.Common.{◌≡◌, ℕ, zero, suc, ◌*◌, ◌<◌, Bool, true, false, cond, eqb, ◌⊎◌, Some, None, Option, sym, refl, ap, ◌∙◌, subst, inl, inr, arith}
use Rattle.std.proofs.lemmas.Bool.{cases_eq, both_ways, eqb-true, eqb-false}
use Rattle.cost.specs.Kind.{Kind, Laws}
use Rattle.plant.specs.Floor.{Floor, FloorLaws, turned}
use Rattle.plant.specs.Walk.{Least}
use Rattle.plant.specs.FloorFacts.{turned_laws}
use Rattle.search.specs.declared.entry.Entry.{Entry}
use Rattle.search.specs.declared.row.Row.{Row}
use Rattle.search.specs.declared.row.State.TheVariants.{Scanned}
use Rattle.search.specs.Rows.{is_labelled, is_open}
use Rattle.search.specs.Steps.{pick, start_rows}
use Rattle.search.specs.declared.meeting.Meeting.{Meeting}
use Rattle.search.specs.TwoWay.{Both, settle, flip, two_from, two_start, two_way}
use Rattle.search.proofs.At.{label_at, state_at, key_at, entry_at}
use Rattle.search.specs.Order.{Le, le_refl, le_trans, le_eq, beyond_join, not_le}
use Rattle.search.proofs.Picks.{Picked, picked_from}
use Rattle.search.proofs.RowCounts.{count_open_all}
use Rattle.search.proofs.RowFacts.{labelled_row, start_row, other_row, start_open, start_length}
use Rattle.search.proofs.SideFacts.{SideInv}
use Rattle.search.proofs.States.{open_cases, is_labelled_eq}
use Rattle.search.proofs.Treks.{Trek, trek_none, trek_turned, trek_unturned}
use Rattle.search.proofs.TurnFacts.{Inv, Settled, Chosen, count, inv_flip, open_key, chosen, all_under, settled}

-- what the search has found
pub record Outcome {C : Type 0} (k : Kind C) (f : Floor C) (s t : ℕ) (b : Both C) : Type 0 where
  pub low : (c : C) → Trek k f s t c → Le k b.met.cost c
  pub real : (b.met.cost ≡ k.beyond) ⊎ Trek k f s t b.met.cost
  pub near_reach : (v : ℕ) → (label_at k b.near.rows v ≡ k.beyond) ⊎ Trek k f s v (label_at k b.near.rows v)
  pub far_reach : (v : ℕ) → (label_at k b.far.rows v ≡ k.beyond) ⊎ Trek k f v t (label_at k b.far.rows v)
  pub near_scans : (v : ℕ) → state_at k b.near.rows v ≡ Scanned → (c : C) → Trek k f s t c → Le k (k.join (label_at k b.near.rows v) (f.bound v t)) c
  pub far_scans : (v : ℕ) → state_at k b.far.rows v ≡ Scanned → (c : C) → Trek k f s t c → Le k (k.join (label_at k b.far.rows v) (f.bound s v)) c

module _ {C : Type 0} {k : Kind C} (laws : Laws k) where
  outcome_flip : {f : Floor C} {s t : ℕ} {b : Both C} → Outcome k (turned f) t s b → Outcome k f s t (flip b)
  outcome_flip o = record {
    low = λ c w. o.low c (trek_turned k laws w);
    real = elim o.real [ inl h ↦ inl h | inr w ↦ inr (trek_unturned k laws w) ];
    near_reach = λ v. elim (o.far_reach v) [ inl h ↦ inl h | inr w ↦ inr (trek_unturned k laws w) ];
    far_reach = λ v. elim (o.near_reach v) [ inl h ↦ inl h | inr w ↦ inr (trek_unturned k laws w) ];
    near_scans = λ v h c w. o.far_scans v h c (trek_turned k laws w);
    far_scans = λ v h c w. o.near_scans v h c (trek_turned k laws w);
  }

  -- the search ends where each open node's key is at least the best meeting
  outcome_of : {f : Floor C} → FloorLaws k f → {s t : ℕ} → s < f.nodes → t < f.nodes → {b : Both C} → Inv k f s t b →
      ((v : ℕ) → is_open (state_at k b.near.rows v) ≡ true → Le k b.met.cost (key_at k f t b.near.rows v)) → Outcome k f s t b
  outcome_of fl s-in t-in {b} inv low = record {
    low = all_under laws fl s-in t-in inv b.met.cost (le_refl k laws _) low;
    real = inv.real;
    near_reach = inv.near.reach;
    far_reach = λ v. elim (inv.far.reach v) [ inl h ↦ inl h | inr w ↦ inr (trek_unturned k laws w) ];
    near_scans = inv.near.scans;
    far_scans = λ v h c w. inv.far.scans v h c (trek_turned k laws w);
  }

  two_from_outcome : (n : ℕ) (f : Floor C) → FloorLaws k f → (s t : ℕ) → s < f.nodes → t < f.nodes → (b : Both C) → Inv k f s t b → count b < n → Outcome k f s t (two_from k f s t n b)
  two_from_outcome zero f fl s t s-in t-in b inv few = absurd (omega arith)
  two_from_outcome (suc n) f fl s t s-in t-in b inv few =
      turn (λ e st. two_from_outcome n (turned f) (turned_laws laws fl) t s t-in s-in (flip (settle k f s b e)) (inv_flip laws st.inv) (omega (arith, st.fewer)))
      (pick k f t (λ _. true) b.near.rows) (picked_from k laws f t (λ _. true) 0 b.near.rows)
    where
      turn : ((e : Entry C) → Settled k f s t b (settle k f s b e) → Outcome k (turned f) t s (two_from k (turned f) t s n (flip (settle k f s b e)))) →
          (o : Option (Entry C)) → Picked k f t (λ _. true) 0 b.near.rows o →
          Outcome k f s t (elim o [ None ↦ b | Some e ↦ elim (k.at_most b.met.cost e.key) [ true ↦ b | false ↦ flip (two_from k (turned f) t s n (flip (settle k f s b e))) ] ])
      turn more None none = outcome_of fl s-in t-in inv (λ v o. elim (open_cases _ o) [
        | inl h ↦ open_key laws inv.near v h _
        | inr h ↦ absurd (both_ways true (none v v _ (omega arith) (labelled_row k b.near.rows v h) (is_labelled_eq _ h)) refl)
      ])
      turn more (Some e) at = test (k.at_most b.met.cost e.key) refl
        where
          is : e ≡ entry_at k f t b.near.rows e.node
          is = (chosen laws inv.near e at).0

          ch : Chosen k f t b.near.rows e.node
          ch = (chosen laws inv.near e at).1

          key : e.key ≡ key_at k f t b.near.rows e.node
          key = ap (λ (x : Entry C). x.key) is

          test : (x : Bool) → k.at_most b.met.cost e.key ≡ x → Outcome k f s t (elim x [ true ↦ b | false ↦ flip (two_from k (turned f) t s n (flip (settle k f s b e))) ])
          test true h = outcome_of fl s-in t-in inv (λ v o. le_trans k laws h (le_trans k laws (le_eq k laws key) (ch.low v o)))
          test false h = outcome_flip (more e (subst (λ (x : Entry C). Settled k f s t b (settle k f s b x)) (sym is) (settled laws fl s-in t-in inv ch (subst (λ x. Le k x b.met.cost) key (not_le k laws _ _ h)))))

  start_side : (f : Floor C) (s : ℕ) → s < f.nodes → (t : ℕ) (m : C) → SideInv k f s t (start_rows k f s) k.zero m
  start_side f s s-in t m = record {
    long = start_length k f s s-in;
    void = λ v h. elim (cases_eq v s) [
      | inl p ↦ absurd (both_ways _ (ap is_labelled h) (ap (λ x. is_labelled (state_at k (start_rows k f s) x)) p ∙ ap (λ (r : Row C). is_labelled r.state) (start_row k f s s-in)))
      | inr n ↦ ap (λ (r : Row C). r.label) (other_row k f s s-in v n)
    ];
    reach = λ v. elim (cases_eq v s) [
      | inl p ↦ inr (subst (λ x. Trek k f s x (label_at k (start_rows k f s) x)) (sym p) (subst (λ (r : Row C). Trek k f s s r.label) (sym (start_row k f s s-in)) (trek_none k laws f s)))
      | inr n ↦ inl (ap (λ (r : Row C). r.label) (other_row k f s s-in v n))
    ];
    source = le_eq k laws (ap (λ (r : Row C). r.label) (start_row k f s s-in));
    last_low = λ v o. laws.zero_least _;
    last_high = λ v c. absurd (both_ways _ c (start_open k f s s-in v));
    settled = λ v h. absurd (both_ways _ (ap is_open h) (start_open k f s s-in v));
    gone = λ v h. absurd (both_ways _ (ap is_open h) (start_open k f s s-in v));
    scans = λ v h. absurd (both_ways _ (ap is_open h) (start_open k f s s-in v));
  }

  module _ (f : Floor C) (s t : ℕ) (s-in : s < f.nodes) (t-in : t < f.nodes) where
    apart_low : (s ≡ t → ⊥) → (v : ℕ) → Le k k.beyond (k.join (label_at k (start_rows k f s) v) (label_at k (start_rows k f t) v))
    apart_low ne v = elim (cases_eq v s) [
      | inl p ↦ le_eq k laws (sym (ap (k.join (label_at k (start_rows k f s) v)) (ap (λ (r : Row C). r.label) (other_row k f t t-in v (λ q. ne (sym p ∙ q)))) ∙ (laws.join_comm _ _ ∙ beyond_join k laws _)))
      | inr n ↦ le_eq k laws (sym (ap (λ (r : Row C). k.join r.label (label_at k (start_rows k f t) v)) (other_row k f s s-in v n) ∙ beyond_join k laws _))
    ]

    pub start_inv : Inv k f s t (two_start k f s t)
    start_inv = record {
      near = start_side f s s-in t _;
      far = start_side (turned f) t t-in s _;
      low = λ v. low (eqb s t) refl v;
      real = real (eqb s t) refl;
    }
      where
        low : (x : Bool) → eqb s t ≡ x → (v : ℕ) → Le k (cond {A = Meeting C} x (record { cost = k.zero; node = s }) (record { cost = k.beyond; node = 0 })).cost (k.join (label_at k (start_rows k f s) v) (label_at k (start_rows k f t) v))
        low true e v = laws.zero_least _
        low false e v = apart_low (eqb-false s t e) v

        real : (x : Bool) → eqb s t ≡ x → ((cond {A = Meeting C} x (record { cost = k.zero; node = s }) (record { cost = k.beyond; node = 0 })).cost ≡ k.beyond) ⊎ Trek k f s t (cond {A = Meeting C} x (record { cost = k.zero; node = s }) (record { cost = k.beyond; node = 0 })).cost
        real true e = inr (subst (λ x. Trek k f s x k.zero) (eqb-true s t e) (trek_none k laws f s))
        real false e = inl refl

    pub two_way_outcome : FloorLaws k f → Outcome k f s t (two_way k f s t)
    two_way_outcome fl =
        let a = count_open_all (start_rows k f s) in
        let b = count_open_all (start_rows k f t) in
        let c = start_length k f s s-in in
        let d = start_length k f t t-in in
        two_from_outcome (suc (2 * f.nodes)) f fl s t s-in t-in (two_start k f s t) start_inv (omega arith)

-- the search's cost is the least of a walk from s to t, or beyond where there is none
pub outcome_least : {C : Type 0} {k : Kind C} {f : Floor C} {s t : ℕ} {b : Both C} → Outcome k f s t b → Least k f s t b.met.cost
outcome_least o = record {
  lower = λ is w. o.low _ (record { lanes = is; walk = w; costs = refl });
  reached = elim o.real [ inl h ↦ inl h | inr w ↦ inr (w.lanes, w.walk, w.costs) ];
}
