use Rattle.std.proofs.Common.{◌+◌, length, ◌∙◌}
use Rattle.plants.specs.Faults.{index_fault}
use Rattle.format.proofs.Tables.{front_long}
use Rattle.format.proofs.plant_file.fill_index.Goals as goal

pub returns-clause-fault : goal.returns-clause-fault
returns-clause-fault c =
    let tails = c.args.lanes.tails.now in
    let out = front_long (c.args.nodes + 1) c.args.first_out.now c.requires.0 in
    let into = front_long (c.args.nodes + 1) c.args.first_in.now c.requires.1.0 in
    let by = front_long (length tails) c.args.by_head.now c.requires.1.1 in
    c.index.ensures.fault ∙ (λ i. index_fault c.args.nodes tails c.args.lanes.heads.now (out i) (into i) (by i))
