-- What holds of lists that pass a test.
use Rattle.std.proofs.Common.{◌≡◌, ℕ, suc, ◌+◌, ◌*◌, ◌<◌, ◌≤◌, true, ◌&&◌, eqb, ltb, leb, List, length, get_or, None, arith}
use Rattle.std.proofs.lemmas.Bool.{and_parts, leb-true, ltb-true, eqb-true}
use Rattle.plants.specs.declared.fault.PlantFault.TheVariants.{Ends}
use Rattle.plants.specs.Columns.{Columns, lane_count}
use Rattle.plants.specs.Faults.{counts_fit, index_lengths_fit, lengths_fit, ends_fit, tail_before, first_failing, or_else}
use Rattle.plants.specs.Tally.{Within}
use Rattle.plants.specs.FirstFailing.{none_fails}
use Rattle.plants.proofs.Stages.{walk_passes}

pub record CountsFit (nodes lanes landmarks : ℕ) : Type 0 where
  pub some : 1 ≤ nodes
  pub small : nodes ≤ 4096
  pub few : lanes ≤ 16384
  pub marks : landmarks ≤ 16

pub counts_passed : (nodes lanes landmarks : ℕ) → counts_fit nodes lanes landmarks ≡ true → CountsFit nodes lanes landmarks
counts_passed nodes lanes landmarks e =
    let p = and_parts (leb 1 nodes) (leb nodes 4096 && (leb lanes 16384 && leb landmarks 16)) e in
    let q = and_parts (leb nodes 4096) (leb lanes 16384 && leb landmarks 16) p.1 in
    let r = and_parts (leb lanes 16384) (leb landmarks 16) q.1 in
    record { some = leb-true _ _ p.0; small = leb-true _ _ q.0; few = leb-true _ _ r.0; marks = leb-true _ _ r.1 }

pub record IndexSized (nodes lanes heads outs ins by : ℕ) : Type 0 where
  pub heads_size : heads ≡ lanes
  pub outs_size : outs ≡ nodes + 1
  pub ins_size : ins ≡ nodes + 1
  pub by_size : by ≡ lanes

pub index_sized : (nodes lanes heads outs ins by : ℕ) → index_lengths_fit nodes lanes heads outs ins by ≡ true → IndexSized nodes lanes heads outs ins by
index_sized nodes lanes heads outs ins by e =
    let p = and_parts (eqb heads lanes) (eqb outs (suc nodes) && (eqb ins (suc nodes) && eqb by lanes)) e in
    let q = and_parts (eqb outs (suc nodes)) (eqb ins (suc nodes) && eqb by lanes) p.1 in
    let r = and_parts (eqb ins (suc nodes)) (eqb by lanes) q.1 in
    record {
      heads_size = eqb-true _ _ p.0;
      outs_size = omega (arith, eqb-true outs (suc nodes) q.0);
      ins_size = omega (arith, eqb-true ins (suc nodes) r.0);
      by_size = eqb-true _ _ r.1;
    }

pub record Sized (nodes landmarks : ℕ) (c : Columns) : Type 0 where
  pub index : IndexSized nodes (lane_count c) (length c.heads) (length c.first_out) (length c.first_in) (length c.by_head)
  pub costs_size : length c.costs ≡ lane_count c
  pub to_size : length c.to ≡ landmarks * nodes
  pub from_size : length c.from ≡ landmarks * nodes

pub sized : (nodes landmarks : ℕ) (c : Columns) → lengths_fit nodes landmarks c ≡ true → Sized nodes landmarks c
sized nodes landmarks c e =
    let tables = eqb (length c.to) (landmarks * nodes) && eqb (length c.from) (landmarks * nodes) in
    let p = and_parts (index_lengths_fit nodes (lane_count c) (length c.heads) (length c.first_out) (length c.first_in) (length c.by_head)) (eqb (length c.costs) (lane_count c) && tables) e in
    let q = and_parts (eqb (length c.costs) (lane_count c)) tables p.1 in
    let r = and_parts (eqb (length c.to) (landmarks * nodes)) (eqb (length c.from) (landmarks * nodes)) q.1 in
    record { index = index_sized _ _ _ _ _ _ p.0; costs_size = eqb-true _ _ q.0; to_size = eqb-true _ _ r.0; from_size = eqb-true _ _ r.1 }

module _ (nodes : ℕ) (tails heads : List ℕ) (passed : first_failing (ends_fit nodes tails heads) 0 (length tails) ≡ None) where
  fits : (k : ℕ) → k < length tails → ends_fit nodes tails heads k ≡ true
  fits k lt = none_fails (ends_fit nodes tails heads) 0 (length tails) k passed (omega arith) (omega arith)

  pub tails_within : Within nodes tails
  tails_within k lt = ltb-true _ _ (and_parts (ltb (get_or tails k 0) nodes) (ltb (get_or heads k 0) nodes && leb (tail_before tails k) (get_or tails k 0)) (fits k lt)).0

  pub heads_within : length heads ≡ length tails → Within nodes heads
  heads_within size k lt =
      let p = and_parts (ltb (get_or tails k 0) nodes) (ltb (get_or heads k 0) nodes && leb (tail_before tails k) (get_or tails k 0)) (fits k (omega (arith, size))) in
      ltb-true _ _ (and_parts (ltb (get_or heads k 0) nodes) (leb (tail_before tails k) (get_or tails k 0)) p.1).0

-- ends that can be counted and grouped
pub record Countable (nodes : ℕ) (ends : List ℕ) : Type 0 where
  pub small : nodes ≤ 4096
  pub few : length ends ≤ 16384
  pub within : Within nodes ends

-- so can the tails and the heads that the tests passed
pub countable : (nodes landmarks : ℕ) (tails heads : List ℕ) → counts_fit nodes (length tails) landmarks ≡ true → length heads ≡ length tails → None ≡ or_else (λ k. Ends k) (first_failing (ends_fit nodes tails heads) 0 (length tails)) None → Countable nodes tails × Countable nodes heads
countable nodes landmarks tails heads counts size ends =
    let c = counts_passed nodes (length tails) landmarks counts in
    let e = walk_passes (λ k. Ends k) (first_failing (ends_fit nodes tails heads) 0 (length tails)) ends in (
      record { small = c.small; few = c.few; within = tails_within nodes tails heads e },
      record { small = c.small; few = omega (arith, size, c.few); within = heads_within nodes tails heads e size },
    )
