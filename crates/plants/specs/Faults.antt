-- Which fault the lists of a plant have: the first of six tests that fails, each over the whole lists.
use Rattle.std.specs.Prelude.{ℕ, zero, suc, ◌+◌, ◌*◌, min, Bool, true, false, cond, ◌&&◌, List, [], ◌∷◌, length, Some, None, Option, ◌==◌, nat_le, nat_lt, slice_index, slice_index_or}
use Rattle.plants.specs.declared.fault.PlantFault.{PlantFault}
use Rattle.plants.specs.declared.fault.PlantFault.TheVariants.{Counts, Lengths, Ends, Cost, Index, Table}
use Rattle.plants.specs.Columns.{Columns, lane_count, row}
use Rattle.plants.specs.Index.{firsts, grouped}

-- the first of n numbers, from k on, that fails a test
abbrev pub first_failing : (ℕ → Bool) → ℕ → ℕ → Option ℕ
first_failing fits k zero = None
first_failing fits k (suc n) = cond (fits k) (first_failing fits (suc k) n) (Some k)

-- the fault at the number found, or else the next test's
abbrev pub or_else : (ℕ → PlantFault) → Option ℕ → Option PlantFault → Option PlantFault
or_else fault None next = next
or_else fault (Some k) next = Some (fault k)

abbrev pub same : List ℕ → List ℕ → Bool
same [] [] = true
same [] (y ∷ ys) = false
same (x ∷ xs) [] = false
same (x ∷ xs) (y ∷ ys) = x == y && same xs ys

abbrev pub counts_fit : ℕ → ℕ → ℕ → Bool
counts_fit nodes lanes landmarks = nat_le 1 nodes && (nat_le nodes 4096 && (nat_le lanes 16384 && nat_le landmarks 16))

abbrev pub index_lengths_fit : ℕ → ℕ → ℕ → ℕ → ℕ → ℕ → Bool
index_lengths_fit nodes lanes heads outs ins by = heads == lanes && (outs == suc nodes && (ins == suc nodes && by == lanes))

abbrev pub lengths_fit : ℕ → ℕ → Columns → Bool
lengths_fit nodes landmarks c =
    index_lengths_fit nodes (lane_count c) (length c.heads) (length c.first_out) (length c.first_in) (length c.by_head) &&
    (length c.costs == lane_count c && (length c.to == landmarks * nodes && length c.from == landmarks * nodes))

-- the tail of the lane before lane k
abbrev pub tail_before : List ℕ → ℕ → ℕ
tail_before tails zero = 0
tail_before tails (suc k) = slice_index tails k

-- both ends are nodes, and the tail is not below the one before
abbrev pub ends_fit : ℕ → List ℕ → List ℕ → ℕ → Bool
ends_fit nodes tails heads k =
    nat_lt (slice_index tails k) nodes && (nat_lt (slice_index heads k) nodes && nat_le (tail_before tails k) (slice_index tails k))

abbrev pub cost_fits : List ℕ → ℕ → Bool
cost_fits costs k = nat_le (slice_index costs k) 1000000

abbrev pub index_fits : ℕ → Columns → Bool
index_fits nodes c =
    same c.first_out (firsts nodes c.tails) &&
    (same c.first_in (firsts nodes c.heads) && same c.by_head (grouped nodes c.heads))

-- the sum of two lengths, held at beyond
abbrev pub sum : ℕ → ℕ → ℕ
sum a b = min (a + b) 4294967295

-- lane k contradicts neither table of a landmark
abbrev pub table_fits : List ℕ → List ℕ → List ℕ → List ℕ → List ℕ → ℕ → Bool
table_fits tails heads costs to from k =
    let tail = slice_index_or tails k 0 in
    let head = slice_index_or heads k 0 in
    let cost = slice_index_or costs k 0 in
    nat_le (slice_index to tail) (sum cost (slice_index to head)) && nat_le (slice_index from head) (sum (slice_index from tail) cost)

-- of n landmarks, from m on: the first with a lane that contradicts it, and its first such lane
abbrev pub table_fault : ℕ → Columns → ℕ → ℕ → Option PlantFault
table_fault nodes c m zero = None
table_fault nodes c m (suc n) =
    or_else (λ k. Table m k) (first_failing (table_fits c.tails c.heads c.costs (row nodes c.to m) (row nodes c.from m)) 0 (lane_count c)) (table_fault nodes c (suc m) n)

abbrev pub plant_fault : ℕ → ℕ → Columns → Option PlantFault
plant_fault nodes landmarks c =
    cond (counts_fit nodes (lane_count c) landmarks)
    (cond (lengths_fit nodes landmarks c)
    (or_else (λ k. Ends k) (first_failing (ends_fit nodes c.tails c.heads) 0 (lane_count c))
    (or_else (λ k. Cost k) (first_failing (cost_fits c.costs) 0 (lane_count c))
    (cond (index_fits nodes c) (table_fault nodes c 0 landmarks) (Some Index))))
    (Some Lengths))
    (Some Counts)

-- the same for the lists that the index is made from, and the lengths of the three lists that it is written to
abbrev pub index_fault : ℕ → List ℕ → List ℕ → ℕ → ℕ → ℕ → Option PlantFault
index_fault nodes tails heads outs ins by =
    cond (counts_fit nodes (length tails) 0)
    (cond (index_lengths_fit nodes (length tails) (length heads) outs ins by)
    (or_else (λ k. Ends k) (first_failing (ends_fit nodes tails heads) 0 (length tails)) None)
    (Some Lengths))
    (Some Counts)

abbrev pub is_none : Option PlantFault → Bool
is_none None = true
is_none (Some f) = false

-- no test fails
abbrev pub is_lawful : ℕ → ℕ → Columns → Bool
is_lawful nodes landmarks c = is_none (plant_fault nodes landmarks c)
