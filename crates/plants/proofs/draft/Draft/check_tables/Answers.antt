-- Each turn passes one landmark, or stops at it.
use Rattle.std.proofs.Common.{ℕ, ◌-◌, ◌*◌, ◌≤◌, drop, sym, ap, ◌∙◌, ⊎_elim, arith}
use Rattle.plants.specs.Columns.{columns}
use Rattle.plants.specs.Faults.{table_fault}
use Rattle.plants.proofs.Landmarks.{rows_end, row_next, walk_ends, landmark_stops, landmark_passes}
use Rattle.plants.proofs.Stages.{exit_tells}
use Rattle.plants.proofs.draft.Draft.check_tables.Goals as goal

pub loop-landmark-preserved : goal.loop-landmark-preserved
loop-landmark-preserved c =
    let n = c.args.self.nodes in
    let all = c.args.self.landmarks in
    let l = columns c.args.self.lists in
    let m = c.loop-landmark.landmark-iterator.count in
    let i = c.loop-landmark.invariant in
    let s = c.in-Some.ensures.steps in
    let to = row_next n all m l.to _ c.requires.some c.requires.to i.to c.in-Some.to.now _ s.0.0.1.0 (s.0.0.1.1 ∙ i.to_size) in
    let from = row_next n all m l.from _ c.requires.some c.requires.from i.from c.in-Some.from.now _ s.0.1.1.0 (s.0.1.1.1 ∙ i.from_size) in
    record {
      to_size = s.0.0.0 ∙ i.to_size;
      to = to.left ∙ ap (λ (k : ℕ). drop (k * n) l.to) (sym s.2);
      from_size = s.0.1.0 ∙ i.from_size;
      from = from.left ∙ ap (λ (k : ℕ). drop (k * n) l.from) (sym s.2);
      left = ap (λ (k : ℕ). table_fault n l k (all - k)) s.2 ∙ landmark_passes n all m l i.left c.in-Some.landmark _ _ s.1 to.is from.is to.next c.in_ok-check_landmark.ensures;
    }

pub returns-in_err-check_landmark : goal.returns-in_err-check_landmark
returns-in_err-check_landmark c =
    let n = c.args.self.nodes in
    let all = c.args.self.landmarks in
    let l = columns c.args.self.lists in
    let m = c.loop-landmark.landmark-iterator.count in
    let i = c.loop-landmark.invariant in
    let s = c.in-Some.ensures.steps in
    let to = row_next n all m l.to _ c.requires.some c.requires.to i.to c.in-Some.to.now _ s.0.0.1.0 (s.0.0.1.1 ∙ i.to_size) in
    let from = row_next n all m l.from _ c.requires.some c.requires.from i.from c.in-Some.from.now _ s.0.1.1.0 (s.0.1.1.1 ∙ i.from_size) in
    exit_tells c.from_residual.result _ _ c.from_residual.ensures.1 (landmark_stops n all m l i.left c.in-Some.landmark _ _ s.1 to.is from.is to.next _ c.in_err-check_landmark.ensures)

pub returns : goal.returns
returns c =
    let n = c.args.self.nodes in
    let l = columns c.args.self.lists in
    let m = c.loop-landmark.landmark-iterator.count in
    let i = c.loop-landmark.invariant in
    let all : c.args.self.landmarks ≤ m =
    ⊎_elim
    (λ x. rows_end n c.args.self.landmarks m l.to _ c.requires.some c.requires.to i.to (omega (arith, x.1.1.0, i.to_size)))
    (λ x. rows_end n c.args.self.landmarks m l.from _ c.requires.some c.requires.from i.from (omega (arith, x.1.1.0, i.from_size)))
    c.in-None.ensures.steps.0 in
    walk_ends n c.args.self.landmarks m l i.left all
