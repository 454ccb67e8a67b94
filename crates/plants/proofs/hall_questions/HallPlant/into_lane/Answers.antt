-- The tests go through the slots of the lanes into a node: each passes where those filled so far are more than j.
use Rattle.std.proofs.Common.{sym, refl, arith}
use Rattle.plants.specs.HallSides.{rows_of}
use Rattle.plants.proofs.HallInto.{into_at, into_past, into_outside}
use Rattle.plants.proofs.hall_questions.HallPlant.into_lane.Goals as goal
use Rattle.plants.proofs.hall_questions.HallPlant.into_lane.Goals.{then-v-nodes-via-then-v-nodes, then-v-nodes-via-else-v-nodes+then-j-ge4}

pub returns-then-v-nodes : goal.returns-then-v-nodes
returns-then-v-nodes c =
    let rows = rows_of c.args.self.now in
    elim c.then-v-nodes.branch [
      | then-v-nodes-via-then-v-nodes w ↦ sym (into_outside _ _ _ rows c.args.v c.args.j w.if-v-nodes.true)
      | then-v-nodes-via-else-v-nodes+then-j-ge4 w ↦ sym (into_past _ _ _ rows c.args.v w.if-v-nodes.false c.args.j w.if-j-ge4.true)
    ]

pub overflow_add-south : goal.overflow_add-south
overflow_add-south c =
    let rows = rows_of c.args.self.now in
    let inside = c.if-v-nodes.false in
    omega arith

pub returns-then-j-north : goal.returns-then-j-north
returns-then-j-north c = sym (into_at _ _ _ (rows_of c.args.self.now) c.args.v c.if-v-nodes.false 0 c.args.j _ refl (omega arith))

pub returns-then-j-north-2 : goal.returns-then-j-north-2
returns-then-j-north-2 c = sym (into_at _ _ _ (rows_of c.args.self.now) c.args.v c.if-v-nodes.false 1 c.args.j _ refl (omega arith))

pub returns-then-j-west : goal.returns-then-j-west
returns-then-j-west c = sym (into_at _ _ _ (rows_of c.args.self.now) c.args.v c.if-v-nodes.false 2 c.args.j _ refl (omega arith))

pub returns-then-j-east : goal.returns-then-j-east
returns-then-j-east c = sym (into_at _ _ _ (rows_of c.args.self.now) c.args.v c.if-v-nodes.false 3 c.args.j _ refl (omega arith))

pub returns-then-j-east-2 : goal.returns-then-j-east-2
returns-then-j-east-2 c = sym (into_at _ _ _ (rows_of c.args.self.now) c.args.v c.if-v-nodes.false 4 c.args.j _ refl (omega arith))

pub returns-then-j-east-lt4 : goal.returns-then-j-east-lt4
returns-then-j-east-lt4 c = sym (into_at _ _ _ (rows_of c.args.self.now) c.args.v c.if-v-nodes.false 5 c.args.j _ refl (omega arith))

pub returns-then-j-south-lt4 : goal.returns-then-j-south-lt4
returns-then-j-south-lt4 c = sym (into_at _ _ _ (rows_of c.args.self.now) c.args.v c.if-v-nodes.false 6 c.args.j _ refl (omega arith))

pub returns-else-j-south-lt4 : goal.returns-else-j-south-lt4
returns-else-j-south-lt4 c = sym (into_at _ _ _ (rows_of c.args.self.now) c.args.v c.if-v-nodes.false 7 c.args.j _ refl (omega arith))
