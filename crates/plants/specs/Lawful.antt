-- What lists that no test refuses keep, each fact by its name.
use Rattle.std.proofs.Common.{◌≡◌, ℕ, suc, ◌*◌, ◌<◌, ◌≤◌, true, ◌&&◌, eqb, ltb, leb, length, get_or, arith}
use Rattle.std.proofs.lemmas.Bool.{and_parts, eqb-true, ltb-true, leb-true}
use Rattle.plants.specs.declared.lane_plant.LanePlant.{LanePlant}
use Rattle.plants.specs.Columns.{Columns, columns, lane_count, row}
use Rattle.plants.specs.Index.{firsts, grouped}
use Rattle.plants.specs.Faults.{first_failing, sum, counts_fit, lengths_fit, tail_before, ends_fit, cost_fits, index_fits, table_fits, table_fault, is_lawful}
use Rattle.plants.specs.FirstFailing.{none_fails}
use Rattle.plants.specs.Passing.{passed, passed-each, no_table_fault}
use Rattle.plants.specs.Same.{same_true}

pub record Lawful (nodes landmarks : ℕ) (c : Columns) : Type 0 where
  pub some : 0 < nodes
  pub few_nodes : nodes ≤ 4096
  pub few_lanes : lane_count c ≤ 16384
  pub few_landmarks : landmarks ≤ 16
  pub heads_size : length c.heads ≡ lane_count c
  pub outs_size : length c.first_out ≡ suc nodes
  pub ins_size : length c.first_in ≡ suc nodes
  pub by_size : length c.by_head ≡ lane_count c
  pub costs_size : length c.costs ≡ lane_count c
  pub to_size : length c.to ≡ landmarks * nodes
  pub from_size : length c.from ≡ landmarks * nodes
  pub tails_in : (k : ℕ) → k < lane_count c → get_or c.tails k 0 < nodes
  pub heads_in : (k : ℕ) → k < lane_count c → get_or c.heads k 0 < nodes
  pub ascends : (k : ℕ) → k < lane_count c → tail_before c.tails k ≤ get_or c.tails k 0
  pub costs_in : (k : ℕ) → k < lane_count c → get_or c.costs k 0 ≤ 1000000
  pub outs : c.first_out ≡ firsts nodes c.tails
  pub ins : c.first_in ≡ firsts nodes c.heads
  pub by : c.by_head ≡ grouped nodes c.heads
  pub to_holds : (m k : ℕ) → m < landmarks → k < lane_count c → get_or (row nodes c.to m) (get_or c.tails k 0) 0 ≤ sum (get_or c.costs k 0) (get_or (row nodes c.to m) (get_or c.heads k 0) 0)
  pub from_holds : (m k : ℕ) → m < landmarks → k < lane_count c → get_or (row nodes c.from m) (get_or c.heads k 0) 0 ≤ sum (get_or (row nodes c.from m) (get_or c.tails k 0) 0) (get_or c.costs k 0)

module _ (nodes landmarks : ℕ) (c : Columns) where
  from_tests :
      counts_fit nodes (lane_count c) landmarks ≡ true
      → lengths_fit nodes landmarks c ≡ true
      → ((k : ℕ) → k < lane_count c → ends_fit nodes c.tails c.heads k ≡ true)
      → ((k : ℕ) → k < lane_count c → cost_fits c.costs k ≡ true)
      → index_fits nodes c ≡ true
      → ((m k : ℕ) → m < landmarks → k < lane_count c → table_fits c.tails c.heads c.costs (row nodes c.to m) (row nodes c.from m) k ≡ true)
      → Lawful nodes landmarks c
  from_tests counts lengths ends costs index tables =
      let counts₁ = and_parts (leb 1 nodes) (leb nodes 4096 && (leb (lane_count c) 16384 && leb landmarks 16)) counts in
      let some : 0 < nodes = leb-true 1 nodes counts₁.0 in
      let counts₂ = and_parts _ _ counts₁.1 in
      let counts₃ = and_parts _ _ counts₂.1 in
      let lengths₁ = and_parts _ _ lengths in
      let ends₁ = and_parts (eqb (length c.heads) (lane_count c)) _ lengths₁.0 in
      let ends₂ = and_parts (eqb (length c.first_out) (suc nodes)) _ ends₁.1 in
      let ends₃ = and_parts (eqb (length c.first_in) (suc nodes)) _ ends₂.1 in
      let lengths₂ = and_parts _ _ lengths₁.1 in
      let lengths₃ = and_parts _ _ lengths₂.1 in
      let index₁ = and_parts _ _ index in
      let index₂ = and_parts _ _ index₁.1 in
      let end = λ (k : ℕ) (lt : k < lane_count c). and_parts (ltb (get_or c.tails k 0) nodes) _ (ends k lt) in
      let more = λ (k : ℕ) (lt : k < lane_count c). and_parts (ltb (get_or c.heads k 0) nodes) _ (end k lt).1 in
      let table = λ (m k : ℕ) (lm : m < landmarks) (lk : k < lane_count c). and_parts (leb (get_or (row nodes c.to m) (get_or c.tails k 0) 0) _) _ (tables m k lm lk) in
      record {
        some = some;
        few_nodes = leb-true _ _ counts₂.0;
        few_lanes = leb-true _ _ counts₃.0;
        few_landmarks = leb-true _ _ counts₃.1;
        heads_size = eqb-true _ _ ends₁.0;
        outs_size = eqb-true _ _ ends₂.0;
        ins_size = eqb-true _ _ ends₃.0;
        by_size = eqb-true _ _ ends₃.1;
        costs_size = eqb-true _ _ lengths₂.0;
        to_size = eqb-true _ _ lengths₃.0;
        from_size = eqb-true _ _ lengths₃.1;
        tails_in = λ k lt. ltb-true _ _ (end k lt).0;
        heads_in = λ k lt. ltb-true _ _ (more k lt).0;
        ascends = λ k lt. leb-true _ _ (more k lt).1;
        costs_in = λ k lt. leb-true _ _ (costs k lt);
        outs = same_true _ _ index₁.0;
        ins = same_true _ _ index₂.0;
        by = same_true _ _ index₂.1;
        to_holds = λ m k lm lk. leb-true _ _ (table m k lm lk).0;
        from_holds = λ m k lm lk. leb-true _ _ (table m k lm lk).1;
      }

  pub lawful : is_lawful nodes landmarks c ≡ true → Lawful nodes landmarks c
  lawful h =
      let counts = passed (counts_fit nodes (lane_count c) landmarks) _ _ h in
      let lengths = passed (lengths_fit nodes landmarks c) _ _ counts.1 in
      let ends = passed-each _ (first_failing (ends_fit nodes c.tails c.heads) 0 (lane_count c)) _ lengths.1 in
      let costs = passed-each _ (first_failing (cost_fits c.costs) 0 (lane_count c)) _ ends.1 in
      let index = passed (index_fits nodes c) (table_fault nodes c 0 landmarks) _ costs.1 in
      from_tests counts.0 lengths.0
      (λ k lt. none_fails _ 0 (lane_count c) k ends.0 (omega arith) (omega arith))
      (λ k lt. none_fails _ 0 (lane_count c) k costs.0 (omega arith) (omega arith))
      index.0
      (λ m k lm lk. none_fails _ 0 (lane_count c) k (no_table_fault nodes c 0 landmarks index.1 m (omega arith) (omega arith)) (omega arith) (omega arith))

pub kept : (p : LanePlant) → Lawful p.nodes p.landmarks (columns p.lists)
kept p = lawful p.nodes p.landmarks (columns p.lists) p.lawful
