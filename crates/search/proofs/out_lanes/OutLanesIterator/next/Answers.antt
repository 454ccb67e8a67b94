use Rattle.std.proofs.Common.{◌+◌, ◌^◌, ◌<◌, length, sym, arith, rules}
use Rattle.plant.specs.Floor.{out_of}
use Rattle.search.proofs.Outs.{out_of_le}
use Rattle.search.proofs.RowFacts.{nth_within}
use Rattle.search.proofs.out_lanes.OutLanesIterator.next.Goals as goal

pub overflow_add-self : goal.overflow_add-self
overflow_add-self g c =
    let self = c.args.self.now in
    let f = g.P.Plant.floor self.plant.now in
    let h : self.next < length (out_of f self.node) = nth_within (out_of f self.node) self.next c.in_ok-lane.lane (sym c.in_ok-lane.ensures) in
    let n : self.next + 1 < 2 ^ 32 = omega (arith, h, out_of_le f self.node, (g.met.P.Lawful.lawful self.plant.now).few_lanes) in search rules

pub returns-clause-goes : goal.returns-clause-goes
returns-clause-goes g c =
    let self = c.args.self.now in
    let f = g.P.Plant.floor self.plant.now in
    let h : self.next < length (out_of f self.node) = nth_within (out_of f self.node) self.next c.in_ok-lane.lane (sym c.in_ok-lane.ensures) in search rules
