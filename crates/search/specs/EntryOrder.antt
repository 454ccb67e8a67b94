-- The order of entries is total and chains, and in three outcomes it is by key, label and number.
use Rattle.std.specs.Prelude.{◌≡◌, ◌≤◌, Bool, true, false, not, cond, ◌&&◌, ◌||◌, ◌⊎◌, ◌≢◌, nat_le, refl}
use Rattle.std.specs.Cmp.{IsTotalOrder, nat_cmp_total, on_total, then_total}
use Rattle.std.specs.Ordering.{is_le, ordering_reverse, ordering_then, nat_cmp}
use Rattle.std.specs.declared.cmp.Ordering.{Ordering}
use Rattle.std.specs.declared.cmp.Ordering.TheVariants.{Less, Equal, Greater}
use Rattle.std.proofs.Common.{sym, ap, subst, ◌∙◌, arith}
use Rattle.std.proofs.Math.Logic.{inl, inr}
use Rattle.std.proofs.lemmas.Bool.{cases_Bool, both_ways, or_cases, or_parts, or_left, or_right, and_parts, and_cases, and_from, cond-true, cond-false, leb-true, leb-false, le-leb}
use Rattle.cost.specs.Kind.{Kind, Laws}
use Rattle.cost.specs.Ordered.{nat_ordered}
use Rattle.queue.specs.Order.{ahead}
use Rattle.queue.specs.Rank.{rank_cmp, rank_total, rank_of, at_most_is}
use Rattle.search.specs.declared.entry.Entry.{Entry}
use Rattle.search.specs.Rows.{below}
use Rattle.search.specs.Steps.{earlier, ahead_of}
use Rattle.search.specs.Order.{le_eq, below_le, below_not, below_trans, not_below, not_le}

module _ {C : Type 0} (k : Kind C) (laws : Laws k) where
  -- a comes before b: by key, or by label where the keys are equal
  pub Before : Entry C → Entry C → Type 0
  Before a b = (below k a.key b.key ≡ true) ⊎ ((a.key ≡ b.key) × (below k a.label b.label ≡ true))

  pub before : (a b : Entry C) → earlier k a b ≡ true → Before a b
  unfolding Before
  before a b e = elim (or_cases (below k a.key b.key) (k.at_most a.key b.key && below k a.label b.label) e) [
    | inl p ↦ inl p
    | inr p ↦ (let q = and_parts (k.at_most a.key b.key) (below k a.label b.label) p in
        elim (cases_Bool (below k a.key b.key)) [ inl t ↦ inl t | inr t ↦ inr (laws.antisym a.key b.key q.0 (not_below k laws a.key b.key t), q.1) ])
  ]

  pub from_before : (a b : Entry C) → Before a b → earlier k a b ≡ true
  unfolding Before
  from_before a b (inl p) = or_left (below k a.key b.key) (k.at_most a.key b.key && below k a.label b.label) p
  from_before a b (inr p) = or_right (below k a.key b.key) (k.at_most a.key b.key && below k a.label b.label) (and_from (k.at_most a.key b.key) (below k a.label b.label) (le_eq k laws p.0) p.1)

  pub earlier_trans : (a b c : Entry C) → earlier k a b ≡ true → earlier k b c ≡ true → earlier k a c ≡ true
  unfolding Before
  earlier_trans a b c p q = from_before a c (elim (before a b p) [
    | inl s ↦ elim (before b c q) [
      | inl t ↦ inl (below_trans k laws a.key b.key c.key s (below_le k laws b.key c.key t))
      | inr t ↦ inl (subst (λ x. below k a.key x ≡ true) t.0 s)
    ]
    | inr s ↦ elim (before b c q) [
      | inl t ↦ inl (subst (λ x. below k x c.key ≡ true) (sym s.0) t)
      | inr t ↦ inr (s.0 ∙ t.0, below_trans k laws a.label b.label c.label s.1 (below_le k laws b.label c.label t.1))
    ]
  ])

  pub earlier_not : (a b : Entry C) → earlier k a b ≡ true → earlier k b a ≢ true
  unfolding Before
  earlier_not a b p q = elim (before a b p) [
    | inl s ↦ elim (before b a q) [
      | inl t ↦ below_not k laws a.key b.key s (below_le k laws b.key a.key t)
      | inr t ↦ below_not k laws a.key b.key s (le_eq k laws t.0)
    ]
    | inr s ↦ elim (before b a q) [
      | inl t ↦ below_not k laws b.key a.key t (le_eq k laws s.0)
      | inr t ↦ below_not k laws a.label b.label s.1 (below_le k laws b.label a.label t.1)
    ]
  ]

  -- neither comes before the other
  pub level : (a b : Entry C) → earlier k a b ≡ false → earlier k b a ≡ false → (a.key ≡ b.key) × (a.label ≡ b.label)
  level a b p q =
      let s = or_parts (below k a.key b.key) (k.at_most a.key b.key && below k a.label b.label) p in
      let t = or_parts (below k b.key a.key) (k.at_most b.key a.key && below k b.label a.label) q in
      let ba = not_below k laws a.key b.key s.0 in
      let ab = not_below k laws b.key a.key t.0 in (
        laws.antisym a.key b.key ab ba,
        laws.antisym a.label b.label
            (elim (and_cases (k.at_most b.key a.key) (below k b.label a.label) t.1) [ inl x ↦ absurd (both_ways (k.at_most b.key a.key) x ba) | inr x ↦ not_below k laws b.label a.label x ])
            (elim (and_cases (k.at_most a.key b.key) (below k a.label b.label) s.1) [ inl x ↦ absurd (both_ways (k.at_most a.key b.key) x ab) | inr x ↦ not_below k laws a.label b.label x ]),
      )

  -- what `ahead_of` says, by cases
  pub data Ahead (a b : Entry C) : Type 0 where
    ahead_early : earlier k a b ≡ true → Ahead a b
    ahead_level : earlier k a b ≡ false → earlier k b a ≡ false → a.node ≤ b.node → Ahead a b

  pub ahead_is : (a b : Entry C) → ahead_of k a b ≡ true → Ahead a b
  ahead_is a b e = elim (cases_Bool (earlier k a b)) [
    | inl p ↦ ahead_early p
    | inr p ↦ elim (cases_Bool (earlier k b a)) [
      | inl q ↦ absurd (both_ways false refl (sym (cond-false (earlier k a b) true (cond (earlier k b a) false (nat_le a.node b.node)) p ∙ cond-true (earlier k b a) false (nat_le a.node b.node) q) ∙ e))
      | inr q ↦ ahead_level p q (leb-true a.node b.node (sym (cond-false (earlier k a b) true (cond (earlier k b a) false (nat_le a.node b.node)) p ∙ cond-false (earlier k b a) false (nat_le a.node b.node) q) ∙ e))
    ]
  ]

  pub from_ahead : (a b : Entry C) → Ahead a b → ahead_of k a b ≡ true
  from_ahead a b (ahead_early p) = cond-true (earlier k a b) true (cond (earlier k b a) false (nat_le a.node b.node)) p
  from_ahead a b (ahead_level p q h) = cond-false (earlier k a b) true (cond (earlier k b a) false (nat_le a.node b.node)) p ∙ cond-false (earlier k b a) false (nat_le a.node b.node) q ∙ le-leb a.node b.node h

  pub ahead_total : (a b : Entry C) → ahead_of k a b ≡ false → ahead_of k b a ≡ true
  ahead_total a b e = elim (cases_Bool (earlier k b a)) [
    | inl q ↦ from_ahead b a (ahead_early q)
    | inr q ↦ elim (cases_Bool (earlier k a b)) [
      | inl p ↦ absurd (both_ways (ahead_of k a b) e (from_ahead a b (ahead_early p)))
      | inr p ↦ from_ahead b a (ahead_level q p (let h = leb-false a.node b.node (sym (cond-false (earlier k a b) true (cond (earlier k b a) false (nat_le a.node b.node)) p ∙ cond-false (earlier k b a) false (nat_le a.node b.node) q) ∙ e) in omega arith))
    ]
  ]

  -- `earlier` looks at keys and labels alone
  earlier_same : (a b c d : Entry C) → a.key ≡ c.key → a.label ≡ c.label → b.key ≡ d.key → b.label ≡ d.label → earlier k a b ≡ earlier k c d
  earlier_same a b c d p q r s = λ i. below k (p i) (r i) || (k.at_most (p i) (r i) && below k (q i) (s i))

  pub ahead_chain : (a b c : Entry C) → ahead_of k a b ≡ true → ahead_of k b c ≡ true → ahead_of k a c ≡ true
  ahead_chain a b c p q = from_ahead a c (elim (ahead_is a b p) [
    | ahead_early s ↦ elim (ahead_is b c q) [
      | ahead_early t ↦ ahead_early (earlier_trans a b c s t)
      | ahead_level t u h ↦ (let e = level b c t u in ahead_early (sym (earlier_same a b a c refl refl e.0 e.1) ∙ s))
    ]
    | ahead_level s v g ↦ (let d = level a b s v in elim (ahead_is b c q) [
      | ahead_early t ↦ ahead_early (earlier_same a c b c d.0 d.1 refl refl ∙ t)
      | ahead_level t u h ↦ ahead_level (earlier_same a c b c d.0 d.1 refl refl ∙ t) (earlier_same c a c b refl refl d.0 d.1 ∙ u) (omega arith)
    ])
  ])

-- the order of entries by an order of their costs: by key, then label, then number
abbrev pub entry_cmp : {C : Type 0} → (C → C → Ordering) → Entry C → Entry C → Ordering
entry_cmp R a b = ordering_then (R a.key b.key) (ordering_then (R a.label b.label) (nat_cmp a.node b.node))

-- where the order R is the kind's, the order of entries is `ahead_of`
module _ {C : Type 0} (k : Kind C) (R : C → C → Ordering) (total : IsTotalOrder R) (ordered : (a b : C) → k.at_most a b ≡ is_le (R a b)) where
  back : (a b : C) → k.at_most b a ≡ is_le (ordering_reverse (R a b))
  back a b = ordered b a ∙ ap is_le (total.antisymm b a)

  by_cases : (r s n : Ordering) (t : Bool) → t ≡ is_le n →
      cond (not (is_le (ordering_reverse r)) || (is_le r && not (is_le (ordering_reverse s)))) true (cond (not (is_le r) || (is_le (ordering_reverse r) && not (is_le s))) false t) ≡ is_le (ordering_then r (ordering_then s n))
  by_cases Less s n t e = refl
  by_cases Equal Less n t e = refl
  by_cases Equal Equal n t e = e
  by_cases Equal Greater n t e = refl
  by_cases Greater s n t e = refl

  at : (a b : Entry C) → ahead_of k a b ≡ ahead (entry_cmp R) a b
  at a b =
      let p = ordered a.key b.key in
      let q = back a.key b.key in
      let s = ordered a.label b.label in
      let t = back a.label b.label in
      (λ i. cond (not (q i) || (p i && not (t i))) true (cond (not (p i) || (q i && not (s i))) false (nat_le a.node b.node)))
      ∙ by_cases (R a.key b.key) (R a.label b.label) (nat_cmp a.node b.node) (nat_le a.node b.node) (nat_ordered a.node b.node)

  pub entry_ordered : ahead_of k ≡ ahead (entry_cmp R)
  entry_ordered i a b = at a b i

-- the order of entries in three outcomes: by key, then label, then number, each cost by the kind's own test
abbrev pub own_cmp : {C : Type 0} → Kind C → Entry C → Entry C → Ordering
own_cmp k = entry_cmp (rank_cmp k.at_most)

module _ {C : Type 0} (k : Kind C) (laws : Laws k) where
  costs : IsTotalOrder (rank_cmp k.at_most)
  costs = rank_total (record { total = not_le k laws; chain = laws.trans })

  pub own_total : IsTotalOrder (own_cmp k)
  own_total = then_total (on_total (λ e. e.key) costs) (then_total (on_total (λ e. e.label) costs) (on_total (λ e. e.node) nat_cmp_total))

  -- it is what the test tells by which the queue goes
  pub own_rank : (a b : Entry C) → rank_cmp (ahead_of k) a b ≡ own_cmp k a b
  own_rank a b = ap (λ le. rank_cmp le a b) (entry_ordered k (rank_cmp k.at_most) costs (λ x y. sym (at_most_is (k.at_most x y) (k.at_most y x)))) ∙ rank_of own_total a b
