use Rattle.std.proofs.Common.{◌≡◌, ℕ, drop, slice_index, refl}
use Rattle.std.proofs.lemmas.Result.{err_from_is_err_and}
use Rattle.format.specs.Items.{Counts, triple, plant_word, plant_form}
use Rattle.format.specs.Turns.{got, form}
use Rattle.format.specs.Reads.{triple_of}
use Rattle.format.proofs.Kept.{made_lost, made_got}
use Rattle.format.proofs.Parts.{lost_first, lost_lanes, lost_marks, got_all}
use Rattle.format.proofs.plant_lines.read_lines.Goals as goal

pub returns-in_err-first : goal.returns-in_err-first
unfolding plant_form
returns-in_err-first c =
    let p = err_from_is_err_and c.from_residual.result c.from_residual.ensures.1 in
    rw (p.1, p.2) (lost_first c.args.text.now _ (made_lost (λ (r : ℕ × ℕ × ℕ). record { nodes = r.0; lanes = r.1; marks = r.2 }) (triple plant_word) 1 c.args.text.now _ c.in_err-first.ensures))

pub returns-in_err-lanes_end : goal.returns-in_err-lanes_end
unfolding plant_form
returns-in_err-lanes_end c =
    let f = c.in_ok-first.first in
    let n : Counts = record { nodes = slice_index f.form 0; lanes = slice_index f.form 1; marks = slice_index f.form 2 } in
    let p : form plant_form 1 c.args.text.now ≡ got n (drop f.end c.args.text.now) =
    made_got (λ (r : ℕ × ℕ × ℕ). record { nodes = r.0; lanes = r.1; marks = r.2 }) (triple plant_word) 1 c.args.text.now (drop f.end c.args.text.now) (triple_of f.form) c.in_ok-first.ensures in
    let e = err_from_is_err_and c.from_residual-in_err-lanes_end.result c.from_residual-in_err-lanes_end.ensures.1 in
    rw (e.1, e.2) (lost_lanes c.args.text.now (drop f.end c.args.text.now) n _ p c.in_err-lanes_end.ensures)

pub returns-in_err-end : goal.returns-in_err-end
unfolding plant_form
returns-in_err-end c =
    let f = c.in_ok-first.first in
    let n : Counts = record { nodes = slice_index f.form 0; lanes = slice_index f.form 1; marks = slice_index f.form 2 } in
    let p : form plant_form 1 c.args.text.now ≡ got n (drop f.end c.args.text.now) =
    made_got (λ (r : ℕ × ℕ × ℕ). record { nodes = r.0; lanes = r.1; marks = r.2 }) (triple plant_word) 1 c.args.text.now (drop f.end c.args.text.now) (triple_of f.form) c.in_ok-first.ensures in
    let l = c.in_ok-lanes_end.ensures in
    let e = err_from_is_err_and c.from_residual-in_err-end.result c.from_residual-in_err-end.ensures.1 in
    rw (e.1, e.2) (lost_marks c.args.text.now (drop f.end c.args.text.now) (drop c.in_ok-lanes_end.lanes_end c.args.text.now) n l.0 _ p l.1 c.in_err-end.ensures)

pub returns : goal.returns
unfolding plant_form
returns c =
    let f = c.in_ok-first.first in
    let n : Counts = record { nodes = slice_index f.form 0; lanes = slice_index f.form 1; marks = slice_index f.form 2 } in
    let p : form plant_form 1 c.args.text.now ≡ got n (drop f.end c.args.text.now) =
    made_got (λ (r : ℕ × ℕ × ℕ). record { nodes = r.0; lanes = r.1; marks = r.2 }) (triple plant_word) 1 c.args.text.now (drop f.end c.args.text.now) (triple_of f.form) c.in_ok-first.ensures in
    let l = c.in_ok-lanes_end.ensures in
    let m = c.in_ok-end.ensures in (
      record { nodes = n.nodes; lanes = l.0; marks = m.0 },
      got_all c.args.text.now (drop f.end c.args.text.now) (drop c.in_ok-lanes_end.lanes_end c.args.text.now) (drop c.in_ok-end.end c.args.text.now) n l.0 m.0 p l.1 m.1,
      record { nodes = refl; lanes = l.2; marks = m.2 },
      l.3,
      m.3,
    )
