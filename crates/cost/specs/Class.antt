-- Classes: the greater of two, up to the greatest byte.
use Rattle.std.specs.Prelude.{ℕ, ◌≤◌, max, cond, nat_le}
use Rattle.std.proofs.Common.{arith}
use Rattle.cost.specs.Kind.{Kind}
use Rattle.cost.specs.declared.class.Class.{Class}

abbrev of_grade : (n : ℕ) → n ≤ 255 → Class
of_grade n h = record { grade = n; ok = h }

abbrev pub class_kind : Kind Class
class_kind = record {
  zero = of_grade 0 (omega arith);
  beyond = of_grade 255 (omega arith);
  at_most = λ a b. nat_le a.grade b.grade;
  join = λ a b. of_grade (max a.grade b.grade) (omega (arith, a.ok, b.ok));
  rest = λ a b. cond (nat_le a.grade b.grade) (of_grade 0 (omega arith)) a;
}
