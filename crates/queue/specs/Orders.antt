-- The test of an order that is total: of two, one is at most the other, and 'at most' chains.
use Rattle.std.specs.Prelude.{◌≡◌, Bool, true, false}
use Rattle.std.specs.Cmp.{IsTotalOrder}
use Rattle.std.specs.Ordering.{is_le, is_gt, ordering_reverse}
use Rattle.std.specs.declared.cmp.Ordering.{Ordering}
use Rattle.std.specs.declared.cmp.Ordering.TheVariants.{Less, Equal, Greater}
use Rattle.std.proofs.Common.{sym, refl, ap, ◌∙◌, true≢false}
use Rattle.std.proofs.lemmas.Cmp.{upto}
use Rattle.queue.specs.Order.{Ranks, ahead}
use Rattle.queue.specs.declared.by_ord.ByOrd.{ByOrd}

no_greater : (r : Ordering) → is_le r ≡ true → is_gt r ≡ false
no_greater Less e = refl
no_greater Equal e = refl
no_greater Greater e = absurd (true≢false (sym e))

at_most : (r : Ordering) → is_gt r ≡ false → is_le r ≡ true
at_most Less e = refl
at_most Equal e = refl
at_most Greater e = absurd (true≢false e)

turned : (r : Ordering) → is_le (ordering_reverse r) ≡ false → is_le r ≡ true
turned Less e = refl
turned Equal e = refl
turned Greater e = absurd (true≢false e)

pub ranks : {X : Type 0} (R : X → X → Ordering) → IsTotalOrder R → Ranks (ahead R)
ranks R o = record {
  total = λ x y e. turned (R y x) (sym (ap is_le (o.antisymm x y)) ∙ e);
  chain = λ x y z h k. at_most (R x z) (upto o x y z (no_greater (R x y) h) (no_greater (R y z) k));
}

-- The rank of an entry that is wrapped.
abbrev pub by_ord : {X : Type 0} → (X → X → Ordering) → ByOrd X → ByOrd X → Bool
by_ord R x y = ahead R x.0 y.0

pub by_ord_ranks : {X : Type 0} {R : X → X → Ordering} → IsTotalOrder R → Ranks (by_ord R)
by_ord_ranks {R = R} total = let o = ranks R total in record { total = λ x y. o.total x.0 y.0; chain = λ x y z. o.chain x.0 y.0 z.0 }
