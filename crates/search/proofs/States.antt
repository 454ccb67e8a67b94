-- What a row's state can be.
use Rattle.std.proofs.Common.{◌≡◌, ℕ, true, false, ◌⊎◌, refl, ap, inl, inr, arith}
use Rattle.std.proofs.lemmas.Bool.{both_ways}
use Rattle.search.specs.declared.row.State.{State}
use Rattle.search.specs.declared.row.State.TheVariants.{Blank, Labelled, Scanned, Dropped}
use Rattle.search.specs.Rows.{is_labelled, is_open, is_scanned}

pub data Stood (s : State) : Type 0 where
  stood_blank : s ≡ Blank → Stood s
  stood_labelled : s ≡ Labelled → Stood s
  stood_scanned : s ≡ Scanned → Stood s
  stood_dropped : s ≡ Dropped → Stood s

pub stand : (s : State) → Stood s
stand Blank = stood_blank refl
stand Labelled = stood_labelled refl
stand Scanned = stood_scanned refl
stand Dropped = stood_dropped refl

pub not_scanned : (s : State) → (s ≡ Scanned → ⊥) → is_scanned s ≡ false
not_scanned Blank n = refl
not_scanned Labelled n = refl
not_scanned Scanned n = absurd (n refl)
not_scanned Dropped n = refl

pub labelled_not_scanned : (s : State) → s ≡ Labelled → s ≡ Scanned → ⊥
labelled_not_scanned s p q = let z : ◌≡◌ {A = ℕ} 0 1 = cc in omega arith

pub labelled_not_blank : (s : State) → s ≡ Labelled → s ≡ Blank → ⊥
labelled_not_blank s p q = let z : ◌≡◌ {A = ℕ} 0 1 = cc in omega arith

pub scanned_not_blank : (s : State) → s ≡ Scanned → s ≡ Blank → ⊥
scanned_not_blank s p q = let z : ◌≡◌ {A = ℕ} 0 1 = cc in omega arith

pub labelled_not_dropped : (s : State) → s ≡ Labelled → s ≡ Dropped → ⊥
labelled_not_dropped s p q = let z : ◌≡◌ {A = ℕ} 0 1 = cc in omega arith

pub open_not_scanned : (s : State) → is_open s ≡ true → false ≡ is_scanned s
open_not_scanned Blank e = refl
open_not_scanned Labelled e = refl
open_not_scanned Scanned e = e
open_not_scanned Dropped e = refl

pub state_cases : (s : State) → (is_open s ≡ true) ⊎ (s ≡ Scanned) ⊎ (s ≡ Dropped)
state_cases Blank = inl refl
state_cases Labelled = inl refl
state_cases Scanned = inr (inl refl)
state_cases Dropped = inr (inr refl)

pub open_cases : (s : State) → is_open s ≡ true → (s ≡ Blank) ⊎ (is_labelled s ≡ true)
open_cases Blank h = inl refl
open_cases Labelled h = inr refl
open_cases Scanned h = absurd (both_ways _ refl h)
open_cases Dropped h = absurd (both_ways _ refl h)

pub is_labelled_eq : (s : State) → is_labelled s ≡ true → s ≡ Labelled
is_labelled_eq Blank h = absurd (both_ways _ refl h)
is_labelled_eq Labelled h = refl
is_labelled_eq Scanned h = absurd (both_ways _ refl h)
is_labelled_eq Dropped h = absurd (both_ways _ refl h)

pub labelled_open : (s : State) → is_labelled s ≡ true → is_open s ≡ true
labelled_open s h = ap is_open (is_labelled_eq s h)

pub is_scanned_eq : (s : State) → is_scanned s ≡ true → s ≡ Scanned
is_scanned_eq Blank h = absurd (both_ways _ refl h)
is_scanned_eq Labelled h = absurd (both_ways _ refl h)
is_scanned_eq Scanned h = refl
is_scanned_eq Dropped h = absurd (both_ways _ refl h)

pub scanned_or_not : (s : State) → (s ≡ Scanned) ⊎ (s ≡ Scanned → ⊥)
scanned_or_not Blank = inr (λ e. let z : ◌≡◌ {A = ℕ} 0 1 = cc in omega arith)
scanned_or_not Labelled = inr (λ e. let z : ◌≡◌ {A = ℕ} 0 1 = cc in omega arith)
scanned_or_not Scanned = inl refl
scanned_or_not Dropped = inr (λ e. let z : ◌≡◌ {A = ℕ} 0 1 = cc in omega arith)
