-- The bound is the byte of the node to reach, or zero where the two are one or one is no node.
use Rattle.std.proofs.Common.{sym, ◌∙◌, inl, inr}
use Rattle.plants.specs.HallLanes.{class_is}
use Rattle.plants.specs.HallLaws.{bound_none, bound_same}
use Rattle.plants.proofs.hall_questions.HallPlant.bound.Goals as goal
use Rattle.plants.proofs.hall_questions.HallPlant.bound.Goals.{then-v-nodes-via-then-v-nodes, then-v-nodes-via-else-v-nodes+then-w-nodes, then-v-nodes-via-else-v-nodes+else-w-nodes+then-v-w}

pub returns-then-v-nodes : goal.returns-then-v-nodes
returns-then-v-nodes c =
    class_is c.from.result 0 c.from.ensures
    ∙ elim c.then-v-nodes.branch [
      | then-v-nodes-via-then-v-nodes w ↦ sym (bound_none _ _ c.args.v c.args.w (inl w.if-v-nodes.true))
      | then-v-nodes-via-else-v-nodes+then-w-nodes w ↦ sym (bound_none _ _ c.args.v c.args.w (inr w.if-w-nodes.true))
      | then-v-nodes-via-else-v-nodes+else-w-nodes+then-v-w w ↦ sym (bound_same _ _ c.args.v c.args.w w.if-v-w.true)
    ]
