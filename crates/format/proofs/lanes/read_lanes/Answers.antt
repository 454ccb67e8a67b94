use Rattle.std.proofs.Common.{ℕ, ◌+◌, [], ◌∷◌, ◌++◌, drop, slice_index, refl, arith}
use Rattle.std.proofs.lemmas.Result.{err_from_is_err_and}
use Rattle.format.specs.Plain.{Lane}
use Rattle.format.specs.Items.{triple, lane_word, lane_form}
use Rattle.format.specs.Reads.{triple_of}
use Rattle.format.proofs.Kept.{made_lost, made_got, read_none, read_lost, read_more, read_all, push_long, lanes_none, lanes_more}
use Rattle.format.proofs.lanes.read_lanes.Goals as goal

pub loop-k-init : goal.loop-k-init
loop-k-init c = (
  record { xs = []; long = refl; is = read_none lane_form (drop c.args.from c.args.text.now) c.args.count 2 },
  lanes_none c.args.lanes.now,
)

pub returns-in_err-lane : goal.returns-in_err-lane
unfolding lane_form
returns-in_err-lane c =
    let p = err_from_is_err_and c.from_residual.result c.from_residual.ensures.1 in
    rw (p.1, p.2)
    (read_lost lane_form c.args.text.now c.args.from c.loop-k.at c.args.count 2 c.loop-k.k _ c.loop-k.invariant.0 c.loop-k-test.true
    (made_lost (λ (r : ℕ × ℕ × ℕ). record { tail = r.0; head = r.1; cost = r.2 }) (triple lane_word) (2 + c.loop-k.k) (drop c.loop-k.at c.args.text.now) _ c.in_err-lane.ensures))

pub loop-k-preserved : goal.loop-k-preserved
unfolding lane_form
loop-k-preserved c =
    let r = c.loop-k.invariant.0 in
    let k = c.loop-k.invariant.1 in
    let n = c.in_ok-lane.lane.form in
    let a : Lane = record { tail = slice_index n 0; head = slice_index n 1; cost = slice_index n 2 } in (
      record {
        xs = r.xs ++ (a ∷ []);
        long = push_long r.xs a c.loop-k.k r.long;
        is =
            read_more lane_form c.args.text.now c.args.from c.loop-k.at c.in_ok-lane.lane.end c.args.count 2 c.loop-k.k a r c.loop-k-test.true
            (made_got (λ (r : ℕ × ℕ × ℕ). record { tail = r.0; head = r.1; cost = r.2 }) (triple lane_word) (2 + c.loop-k.k) (drop c.loop-k.at c.args.text.now) (drop c.in_ok-lane.lane.end c.args.text.now)
            (triple_of n) c.in_ok-lane.ensures);
      },
      lanes_more r.xs a c.args.lanes.now c.loop-k.lanes c.push.new.self k c.push.ensures,
    )

pub returns : goal.returns
returns c =
    let r = c.loop-k.invariant.0 in
    (r.xs, read_all lane_form c.args.text.now c.args.from c.loop-k.at c.args.count 2 c.loop-k.k r c.loop-k-test.false, (let l = r.long in let t = c.loop-k-test.false in let e = c.loop-k.auto.k-end in omega arith), c.loop-k.invariant.1)
