-- The laws of lengths.
use Rattle.std.specs.Prelude.{◌≡◌, ℕ, ◌≤◌}
use Rattle.std.proofs.Common.{ap, arith}
use mathlib.Core.HLevel.{is_prop→PathP}
use Rattle.std.proofs.Math.Bridge.{le_prop}
use Rattle.std.proofs.lemmas.Bool.{leb-true, le-leb}
use Rattle.std.specs.Ordering.{is_le, nat_cmp}
use Rattle.cost.specs.Kind.{Laws}
use Rattle.cost.specs.Ordered.{le_total, le_trans, le_antisym, nat_ordered}
use Rattle.cost.specs.Length.{length_kind}
use Rattle.cost.specs.declared.length.Length.{Length}

pub same_length : (a b : Length) → a.metres ≡ b.metres → a ≡ b
same_length a b e = λ i. record {
  metres = e i;
  ok = is_prop→PathP (λ k. e k ≤ 4294967295) (λ k. le_prop) a.ok b.ok i;
}

pub length_laws : Laws length_kind
length_laws = record {
  total = λ a b. le_total a.metres b.metres;
  trans = λ a b c. le_trans a.metres b.metres c.metres;
  antisym = λ a b p q. same_length a b (le_antisym _ _ p q);
  zero_least = λ a. le-leb _ _ (omega arith);
  beyond_greatest = λ a. le-leb _ _ a.ok;
  apart = λ e. let z : ◌≡◌ {A = ℕ} 0 4294967295 = ap (λ x. x.metres) e in omega arith;
  join_assoc = λ a b c. same_length _ _ (omega arith);
  join_comm = λ a b. same_length _ _ (omega arith);
  join_zero = λ a. same_length _ _ (omega (arith, a.ok));
  join_mono = λ a b c p. le-leb _ _ (omega (arith, leb-true _ _ p));
  rest_least = λ a b c p. le-leb _ _ (omega (arith, a.ok, leb-true _ _ p));
  rest_covers = λ a b c p. le-leb _ _ (omega (arith, leb-true _ _ p));
  shared = λ a b h c p q. le-leb _ _ (omega (arith, leb-true _ _ p, leb-true _ _ q));
}

-- the order of lengths is that of their metres
pub length_ordered : (a b : Length) → length_kind.at_most a b ≡ is_le (nat_cmp a.metres b.metres)
length_ordered a b = nat_ordered a.metres b.metres
