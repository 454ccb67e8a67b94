-- Where a cell of a hall has neighbours, and that these are cells of the hall.
use Rattle.std.proofs.Common.{◌≡◌, ℕ, zero, suc, ◌+◌, ◌-◌, ◌*◌, ◌%◌, ◌<◌, ◌≤◌, IfSome, Some, None, Option, sym, subst, ⊎_elim, arith}
use native.Mathlib.Nat.{mul-mod_left, mod-one, zero-mod}
use Rattle.std.proofs.lemmas.Nat.{mul-le}
use Rattle.std.proofs.lemmas.Bool.{cases_eq, cond_both, ltb-true}
use Rattle.plants.specs.declared.hall.Hall.{Hall}
use Rattle.plants.specs.Hall.{has_north, has_east, has_south, has_west, neighbour}

-- the nodes of a hall stand in whole rows
pub record Rows (nodes columns : ℕ) : Type 0 where
  pub some : 0 < columns
  pub wide : columns ≤ nodes
  pub whole : nodes % columns ≡ 0
  pub few : nodes ≤ 4096

pub rows_of : (h : Hall) → Rows (h.rows * h.columns) h.columns
rows_of h = record {
  some = h.some_column;
  wide = let some-row = h.some_row in omega (arith, mul-le 1 h.columns h.rows h.columns some-row (omega arith));
  whole = mul-mod_left h.rows h.columns;
  few = h.few;
}

-- the first cell of all has no neighbour to the west
pub west_below : (columns v : ℕ) → 0 < v % columns → 0 < v
west_below columns v west =
    ⊎_elim
    (λ (e : v ≡ 0). absurd (let z : 0 < 0 % columns = subst (λ u. 0 < u % columns) e west in omega (arith, zero-mod columns)))
    (λ (ne : v ≡ 0 → ⊥). omega arith)
    (cases_eq v 0)

-- the last cell of all has no neighbour to the east
pub east_below : (nodes columns v : ℕ) → Rows nodes columns → v < nodes → 0 < (v + 1) % columns → v + 1 < nodes
east_below nodes columns v rows lt east =
    ⊎_elim
    (λ (e : v + 1 ≡ nodes). absurd (let z : 0 < nodes % columns = subst (λ u. 0 < u % columns) e east in omega (arith, rows.whole)))
    (λ (ne : v + 1 ≡ nodes → ⊥). omega arith)
    (cases_eq (v + 1) nodes)

-- in one column, no cell has a neighbour to the west or the east
pub more_columns : (columns v : ℕ) → 0 < columns → 0 < v % columns → 1 < columns
more_columns columns v some beside =
    ⊎_elim
    (λ (e : columns ≡ 1). absurd (let z : 0 < v % 1 = subst (λ u. 0 < v % u) e beside in omega (arith, mod-one v)))
    (λ (ne : columns ≡ 1 → ⊥). omega arith)
    (cases_eq columns 1)

module _ (nodes columns : ℕ) (rows : Rows nodes columns) (v : ℕ) (inside : v < nodes) where
  abbrev InHall : Option ℕ → Type 0
  InHall to = (w : ℕ) → to ≡ Some w → w < nodes

  one_in : (x : ℕ) → x < nodes → InHall (Some x)
  one_in x lt w e = let same : x ≡ w = cc in omega arith

  none_in : InHall None
  none_in w e = let z : ◌≡◌ {A = ℕ} 0 1 = cc in absurd (omega arith)

  pub neighbour_in : (side : ℕ) → InHall (neighbour nodes columns v side)
  neighbour_in zero = cond_both (has_north columns v) (Some (v - columns)) None InHall (λ h. one_in (v - columns) (omega arith)) (λ h. none_in)
  neighbour_in (suc zero) =
      cond_both (has_east columns v) (Some (v + 1)) None InHall (λ h. one_in (v + 1) (east_below nodes columns v rows inside (ltb-true 0 ((v + 1) % columns) h))) (λ h. none_in)
  neighbour_in (suc (suc zero)) =
      cond_both (has_south nodes columns v) (Some (v + columns)) None InHall (λ h. one_in (v + columns) (ltb-true (v + columns) nodes h)) (λ h. none_in)
  neighbour_in (suc (suc (suc side))) =
      cond_both (has_west columns v) (Some (v - 1)) None InHall (λ h. one_in (v - 1) (omega arith)) (λ h. none_in)

  pub answered_in : (side : ℕ) (r : Option ℕ) → r ≡ neighbour nodes columns v side → IfSome r (λ w. w < nodes)
  answered_in side None e = tt
  answered_in side (Some w) e = neighbour_in side w (sym e)
