-- The laws of classes.
use Rattle.std.specs.Prelude.{◌≡◌, ℕ, ◌≤◌, max, true, nat_le}
use Rattle.std.proofs.Common.{ap, arith}
use mathlib.Core.HLevel.{is_prop→PathP}
use Rattle.std.proofs.Math.Bridge.{le_prop}
use Rattle.std.proofs.lemmas.Bool.{leb-true, leb-false, le-leb, cond_both}
use Rattle.std.specs.Ordering.{is_le, nat_cmp}
use Rattle.cost.specs.Kind.{Laws}
use Rattle.cost.specs.Ordered.{le_total, le_trans, le_antisym, nat_ordered}
use Rattle.cost.specs.Class.{class_kind}
use Rattle.cost.specs.declared.class.Class.{Class}

-- two classes of one grade are one class
pub same_class : (a b : Class) → a.grade ≡ b.grade → a ≡ b
same_class a b e = λ i. record {
  grade = e i;
  ok = is_prop→PathP (λ k. e k ≤ 255) (λ k. le_prop) a.ok b.ok i;
}

pub class_laws : Laws class_kind
class_laws = record {
  total = λ a b. le_total a.grade b.grade;
  trans = λ a b c. le_trans a.grade b.grade c.grade;
  antisym = λ a b p q. same_class a b (le_antisym _ _ p q);
  zero_least = λ a. le-leb _ _ (omega arith);
  beyond_greatest = λ a. le-leb _ _ a.ok;
  apart = λ e. let z : ◌≡◌ {A = ℕ} 0 255 = ap (λ x. x.grade) e in omega arith;
  join_assoc = λ a b c. same_class _ _ (omega arith);
  join_comm = λ a b. same_class _ _ (omega arith);
  join_zero = λ a. same_class _ _ (omega arith);
  join_mono = λ a b c p. le-leb _ _ (omega (arith, leb-true _ _ p));
  rest_least = λ a b c.
      cond_both (nat_le a.grade b.grade) _ a (λ (x : Class). nat_le x.grade c.grade ≡ true → nat_le a.grade (max b.grade c.grade) ≡ true)
      (λ e p. le-leb _ _ (omega (arith, leb-true _ _ e)))
      (λ e p. le-leb _ _ (omega (arith, leb-true _ _ p)));
  rest_covers = λ a b c p.
      cond_both (nat_le a.grade b.grade) _ a (λ (x : Class). nat_le x.grade c.grade ≡ true)
      (λ e. le-leb _ _ (omega arith))
      (λ e. le-leb _ _ (omega (arith, leb-true _ _ p, leb-false _ _ e)));
  shared = λ a b h c p q. le-leb _ _ (omega (arith, leb-true _ _ p, leb-true _ _ q));
}

-- the order of classes is that of their grades
pub class_ordered : (a b : Class) → class_kind.at_most a b ≡ is_le (nat_cmp a.grade b.grade)
class_ordered a b = nat_ordered a.grade b.grade
