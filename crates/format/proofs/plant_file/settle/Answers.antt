use Rattle.std.proofs.Common.{◌≡◌, ℕ, ◌∙◌, arith}
use Rattle.plants.specs.declared.fault.PlantFault.TheVariants.{Ends, Cost}
use Rattle.format.proofs.Exits.{exit_tells}
use Rattle.format.proofs.Judged.{named, passes, index_passes}
use Rattle.format.proofs.plant_file.settle.Goals as goal

pub returns-in_err-check_ends-clause-fault : goal.returns-in_err-check_ends-clause-fault
returns-in_err-check_ends-clause-fault c ms h counts long =
    exit_tells c.from_residual.result _ _ c.from_residual.ensures.1 (named (λ k. Ends k) _ _ _ c.in_err-check_ends.ensures)

pub returns-in_err-check_costs-clause-fault : goal.returns-in_err-check_costs-clause-fault
returns-in_err-check_costs-clause-fault c ms h counts long =
    exit_tells c.from_residual-in_err-check_costs.result _ _ c.from_residual-in_err-check_costs.ensures.1
    (named (λ k. Cost k) _ _ _ c.in_err-check_costs.ensures ∙ passes (λ k. Ends k) _ _ c.in_ok-check_ends.ensures)

pub returns-in_err-test_marks-clause-fault : goal.returns-in_err-test_marks-clause-fault
returns-in_err-test_marks-clause-fault c ms h counts long =
    exit_tells c.from_residual-in_err-test_marks.result _ _ c.from_residual-in_err-test_marks.ensures.1
    (c.in_err-test_marks.ensures ms h ∙ (passes (λ k. Cost k) _ _ c.in_ok-check_costs.ensures ∙ passes (λ k. Ends k) _ _ c.in_ok-check_ends.ensures))

pub returns-in_err-fill_index-clause-fault : goal.returns-in_err-fill_index-clause-fault
returns-in_err-fill_index-clause-fault c ms h counts long =
    let e = c.in_err-fill_index.ensures.fault ∙ index_passes c.args.nodes c.args.lanes.tails.now c.args.lanes.heads.now counts long c.in_ok-check_ends.ensures in
    absurd (let z : ◌≡◌ {A = ℕ} 0 1 = cc in omega arith)

pub returns-clause-fault : goal.returns-clause-fault
returns-clause-fault c ms h counts long =
    c.in_ok-test_marks.ensures ms h ∙ (passes (λ k. Cost k) _ _ c.in_ok-check_costs.ensures ∙ passes (λ k. Ends k) _ _ c.in_ok-check_ends.ensures)
