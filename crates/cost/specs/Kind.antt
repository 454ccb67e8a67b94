-- A cost kind: its operations, and the laws that the router rests on.
use Rattle.std.specs.Prelude.{◌≡◌, Bool, true, ◌⊎◌}

pub record Kind (C : Type 0) : Type 0 where
  pub zero : C
  pub beyond : C
  pub at_most : C → C → Bool
  pub join : C → C → C
  pub rest : C → C → C

pub record Laws {C : Type 0} (k : Kind C) : Type 0 where
  pub total : (a b : C) → (k.at_most a b ≡ true) ⊎ (k.at_most b a ≡ true)
  pub trans : (a b c : C) → k.at_most a b ≡ true → k.at_most b c ≡ true → k.at_most a c ≡ true
  pub antisym : (a b : C) → k.at_most a b ≡ true → k.at_most b a ≡ true → a ≡ b
  pub zero_least : (a : C) → k.at_most k.zero a ≡ true
  pub beyond_greatest : (a : C) → k.at_most a k.beyond ≡ true
  pub apart : k.zero ≡ k.beyond → ⊥
  pub join_assoc : (a b c : C) → k.join (k.join a b) c ≡ k.join a (k.join b c)
  pub join_comm : (a b : C) → k.join a b ≡ k.join b a
  pub join_zero : (a : C) → k.join a k.zero ≡ a
  pub join_mono : (a b c : C) → k.at_most a b ≡ true → k.at_most (k.join a c) (k.join b c) ≡ true
  -- the rest of a after b is at most c exactly when a is at most b joined with c
  pub rest_least : (a b c : C) → k.at_most (k.rest a b) c ≡ true → k.at_most a (k.join b c) ≡ true
  pub rest_covers : (a b c : C) → k.at_most a (k.join b c) ≡ true → k.at_most (k.rest a b) c ≡ true
  -- a shared part may be put up to a greater one; a join need not cancel
  pub shared : (a b h c : C) → k.at_most (k.join a h) (k.join b h) ≡ true → k.at_most h c ≡ true → k.at_most (k.join a c) (k.join b c) ≡ true
