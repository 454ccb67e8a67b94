-- The lanes out of a node are its four, by rising number.
use Rattle.std.proofs.Common.{◌≡◌, ◌+◌, ◌*◌, IfSome, ◌∙◌, rules}
use Rattle.plants.specs.HallLanes.{out_inside, out_elsewhere}
use Rattle.plants.proofs.hall_questions.HallPlant.out_lane.Goals as goal
use Rattle.plants.proofs.hall_questions.HallPlant.out_lane.Goals.{then-v-self, else-v-self}

pub returns : goal.returns
returns c =
    let v = c.args.v in
    let j = c.args.j in
    let is : IfSome c.then.result (λ k. k ≡ 4 * v + j) = search rules in
    elim c.if-v-self.branch [
      | then-v-self w ↦ out_inside _ _ _ v j c.then.result w.if-v-self.true (c.then.ensures.variant ∙ w.then-is) is
      | else-v-self w ↦ out_elsewhere _ _ _ v j c.then.result w.if-v-self.false (c.then.ensures.variant ∙ w.then-is)
    ]
