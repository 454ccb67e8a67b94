-- The tails and the heads that pass the first tests can be counted.
use Rattle.std.proofs.Common.{None}
use Rattle.plants.specs.declared.fault.PlantFault.TheVariants.{Counts, Lengths}
use Rattle.plants.specs.Columns.{columns, lane_count}
use Rattle.plants.specs.Faults.{counts_fit, lengths_fit}
use Rattle.plants.proofs.Passed.{sized, countable}
use Rattle.plants.proofs.Stages.{test_passed}
use Rattle.plants.proofs.draft.Draft.test.Goals as goal

pub invariant_of-tails : goal.invariant_of-tails
invariant_of-tails c =
    let l = columns c.args.self.lists in
    let n = c.args.self.nodes in
    let m = c.args.self.landmarks in
    let sizes = sized n m l (test_passed (lengths_fit n m l) None Lengths c.in_ok-check_lengths.ensures).0 in
    let ends = countable n m l.tails l.heads (test_passed (counts_fit n (lane_count l) m) None Counts c.in_ok-check_counts.ensures).0 sizes.index.heads_size c.in_ok-check_ends.ensures in
    record { small = ends.0.small; few = ends.0.few; within = ends.0.within }

pub invariant_of-heads : goal.invariant_of-heads
invariant_of-heads c =
    let l = columns c.args.self.lists in
    let n = c.args.self.nodes in
    let m = c.args.self.landmarks in
    let sizes = sized n m l (test_passed (lengths_fit n m l) None Lengths c.in_ok-check_lengths.ensures).0 in
    let ends = countable n m l.tails l.heads (test_passed (counts_fit n (lane_count l) m) None Counts c.in_ok-check_counts.ensures).0 sizes.index.heads_size c.in_ok-check_ends.ensures in
    record { small = ends.1.small; few = ends.1.few; within = ends.1.within }
