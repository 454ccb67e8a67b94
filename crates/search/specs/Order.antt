-- The order of costs and the join, from a kind's laws.
use Rattle.std.specs.Prelude.{◌≡◌, true, false}
use Rattle.std.proofs.Common.{subst, ◌∙◌, inl, inr}
use Rattle.std.proofs.lemmas.Bool.{both_ways, cases_Bool, not-true, not-false, not_from_false}
use Rattle.cost.specs.Kind.{Kind, Laws}
use Rattle.search.specs.Rows.{below}

-- a is at most b
abbrev pub Le : {C : Type 0} → Kind C → C → C → Type 0
Le k a b = k.at_most a b ≡ true

module _ {C : Type 0} (k : Kind C) (laws : Laws k) where
  pub le_refl : (a : C) → Le k a a
  le_refl a = elim (laws.total a a) [ inl h ↦ h | inr h ↦ h ]

  pub le_trans : {a b c : C} → Le k a b → Le k b c → Le k a c
  le_trans {a} {b} {c} h j = laws.trans a b c h j

  pub le_eq : {a b : C} → a ≡ b → Le k a b
  le_eq {a} {b} e = subst (λ x. Le k a x) e (le_refl a)

  pub le_mono : {a b : C} (c : C) → Le k a b → Le k (k.join a c) (k.join b c)
  le_mono {a} {b} c h = laws.join_mono a b c h

  pub le_mono_right : {a b : C} (c : C) → Le k a b → Le k (k.join c a) (k.join c b)
  le_mono_right {a} {b} c h = rw (laws.join_comm c a, laws.join_comm c b) (laws.join_mono a b c h)

  pub zero_join : (a : C) → k.join k.zero a ≡ a
  zero_join a = laws.join_comm k.zero a ∙ laws.join_zero a

  pub le_join : (a b : C) → Le k a (k.join a b)
  le_join a b = subst (λ x. Le k x (k.join a b)) (laws.join_zero a) (le_mono_right a (laws.zero_least b))

  -- what is at least beyond is at least anything
  pub le_beyond : {a b : C} → Le k k.beyond b → Le k a b
  le_beyond {a} h = le_trans (laws.beyond_greatest a) h

  pub beyond_join : (a : C) → k.join k.beyond a ≡ k.beyond
  beyond_join a = laws.antisym _ _ (laws.beyond_greatest _) (le_join k.beyond a)

  pub below_not : (a b : C) → below k a b ≡ true → Le k b a → ⊥
  below_not a b h j = both_ways (k.at_most b a) (not-true _ h) j

  pub below_le : (a b : C) → below k a b ≡ true → Le k a b
  below_le a b h = elim (laws.total a b) [ inl j ↦ j | inr j ↦ absurd (below_not a b h j) ]

  pub not_below : (a b : C) → below k a b ≡ false → Le k b a
  not_below a b h = not-false _ h

  pub not_le : (a b : C) → k.at_most a b ≡ false → Le k b a
  not_le a b h = elim (laws.total a b) [ inl j ↦ absurd (both_ways _ h j) | inr j ↦ j ]

  pub le_zero : {a : C} (b : C) → Le k a k.zero → Le k (k.join a b) b
  le_zero {a} b h = subst (λ x. Le k (k.join a b) x) (zero_join b) (le_mono b h)

  -- what is at least beyond is beyond
  pub is_beyond : (a : C) → Le k k.beyond a → a ≡ k.beyond
  is_beyond a h = laws.antisym a k.beyond (laws.beyond_greatest a) h

  pub below_trans : (a b c : C) → below k a b ≡ true → Le k b c → below k a c ≡ true
  below_trans a b c p q = elim (cases_Bool (k.at_most c a)) [ inl t ↦ absurd (below_not a b p (le_trans q t)) | inr t ↦ not_from_false (k.at_most c a) t ]
