-- A lane enters its tail's neighbour, or leads back to its tail.
use Rattle.std.proofs.Common.{◌≡◌, ◌*◌, ◌/◌, ◌%◌, get_or, MatchOption, sym, ap, ◌∙◌, rules}
use Rattle.plants.specs.Hall.{neighbour}
use Rattle.plants.specs.HallLanes.{lane_of, lane_past}
use Rattle.plants.proofs.hall_questions.HallPlant.lane.Goals as goal

pub returns-then-v-self : goal.returns-then-v-self
returns-then-v-self c = sym (lane_past _ _ _ c.args.k c.if-v-self.true)

pub returns : goal.returns
returns c =
    let h = c.args.self.now in
    let k = c.args.k in
    let to = c.neighbour-neighbour.result in
    let side : to ≡ neighbour (h.rows * h.columns) h.columns (k / 4) (k % 4) = c.neighbour-neighbour.ensures.is ∙ ap (neighbour (h.rows * h.columns) h.columns (k / 4)) c.of_lane.ensures in
    let cost : MatchOption to (c.from.result.grade ≡ 255) (λ w. c.from.result.grade ≡ get_or h.cells.now w 0) = search rules in
    rw c.unwrap_or.ensures (lane_of _ _ _ k to c.from.result c.if-v-self.false side cost)
