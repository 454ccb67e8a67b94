-- The order that a test `le`, 'is at most', tells, of any values and of entries by their rank.
use Rattle.std.specs.Prelude.{◌≡◌, Bool, true, false, cond}
use Rattle.std.specs.Ordering.{ordering_reverse, is_le, is_lt, is_eq, on}
use Rattle.std.specs.declared.cmp.Ordering.{Ordering}
use Rattle.std.specs.declared.cmp.Ordering.TheVariants.{Less, Equal, Greater}
use Rattle.std.specs.Cmp.{IsTotalOrder, both_ways, on_total}
use Rattle.std.proofs.Common.{sym, refl, ap, ◌∙◌, true≢false}
use Rattle.queue.specs.Order.{Ranks, ahead}
use Rattle.queue.specs.declared.by_rank.ByRank.{ByRank}

-- How x and y stand, where a tells whether x is at most y, and b whether y is at most x.
abbrev pub standing : Bool → Bool → Ordering
standing a b = cond a (cond b Equal Less) Greater

abbrev pub rank_cmp : {X : Type 0} → (X → X → Bool) → X → X → Ordering
rank_cmp le x y = standing (le x y) (le y x)

abbrev pub by_rank : {X : Type 0} → (X → X → Bool) → ByRank X → ByRank X → Ordering
by_rank le = on (λ r. r.0) (rank_cmp le)

turned : (a b : Bool) → (a ≡ false → b ≡ true) → standing a b ≡ ordering_reverse (standing b a)
turned true true h = refl
turned true false h = refl
turned false true h = refl
turned false false h = absurd (true≢false (sym (h refl)))

less_is : (a b : Bool) → standing a b ≡ Less → (a ≡ true) × (b ≡ false)
less_is true true e = absurd (true≢false (sym (ap is_lt e)))
less_is true false e = (refl, refl)
less_is false b e = absurd (true≢false (sym (ap is_lt e)))

equal_is : (a b : Bool) → standing a b ≡ Equal → (a ≡ true) × (b ≡ true)
equal_is true true e = (refl, refl)
equal_is true false e = absurd (true≢false (sym (ap is_eq e)))
equal_is false b e = absurd (true≢false (sym (ap is_eq e)))

denied : (b : Bool) → (b ≡ true → ⊥) → b ≡ false
denied true f = absurd (f refl)
denied false f = refl

-- and the test that an outcome gives
pub at_most_is : (a b : Bool) → is_le (standing a b) ≡ a
at_most_is true true = refl
at_most_is true false = refl
at_most_is false b = refl

module _ {X : Type 0} {le : X → X → Bool} where
  pub rank_total : Ranks le → IsTotalOrder (rank_cmp le)
  rank_total o = record {
    antisymm = λ x y. turned (le x y) (le y x) (o.total x y);
    trans = λ x y z h k.
        let p = less_is (le x y) (le y x) h in
        let q = less_is (le y z) (le z y) k in
        let back : le z x ≡ false = denied (le z x) (λ e. true≢false (sym (o.chain z x y e p.0) ∙ q.1)) in
        λ i. standing (o.chain x y z p.0 q.0 i) (back i);
    congr = λ x y z h.
        let p = equal_is (le x y) (le y x) h in
        let left : le x z ≡ le y z = both_ways (le x z) (le y z) (o.chain y x z p.1) (o.chain x y z p.0) in
        let right : le z x ≡ le z y = both_ways (le z x) (le z y) (λ e. o.chain z x y e p.0) (λ e. o.chain z y x e p.1) in
        λ i. standing (left i) (right i);
  }

  pub by_rank_total : ((x y : X) → le x y ≡ false → le y x ≡ true) → ((x y z : X) → le x y ≡ true → le y z ≡ true → le x z ≡ true) → IsTotalOrder (by_rank le)
  by_rank_total total chain = on_total (λ r. r.0) (rank_total (record { total = total; chain = chain }))

-- Its test is `le` again.
pub by_rank_ahead : {X : Type 0} (le : X → X → Bool) → ahead (by_rank le) ≡ (λ x y. le x.0 y.0)
by_rank_ahead le i x y = at_most_is (le x.0 y.0) (le y.0 x.0) i

outcome : (s : Ordering) → standing (is_le (ordering_reverse s)) (is_le s) ≡ ordering_reverse s
outcome Less = refl
outcome Equal = refl
outcome Greater = refl

-- What the test of a total order tells is that order.
pub rank_of : {X : Type 0} {R : X → X → Ordering} → IsTotalOrder R → (x y : X) → rank_cmp (ahead R) x y ≡ R x y
rank_of {R = R} o x y = (λ i. standing (is_le (o.antisymm x y i)) (is_le (R y x))) ∙ outcome (R y x) ∙ sym (o.antisymm x y)
