-- The best after the last landmark is the greatest that any shows.
use Rattle.std.proofs.Common.{◌≡◌, ◌+◌, ◌-◌, ◌≤◌, max, ◌⊎◌, get_or, sym, refl, ap, ◌∙◌, inl, inr, ⊎_elim, add-one, arith, rules}
use Rattle.std.proofs.lemmas.Grind.{common_steps}
use Rattle.plants.specs.Columns.{columns}
use Rattle.plants.specs.Laid.{greatest, shown}
use Rattle.plants.specs.Lawful.{kept}
use Rattle.plants.specs.Lanes.{metres_is}
use Rattle.plants.specs.Bounds.{bound_inside, bound_none}
use Rattle.plants.proofs.Landmarks.{rows_end, row_next}
use Rattle.plants.proofs.questions.LanePlantPlant.bound.Goals as goal
use Rattle.plants.proofs.questions.LanePlantPlant.bound.Goals.{then-v-self-via-then-v-self, then-v-self-via-else-v-self+then-w-self}

pub returns-then-v-self : goal.returns-then-v-self
returns-then-v-self c =
    let p = c.args.self.now in
    let past : (p.nodes ≤ c.args.v) ⊎ (p.nodes ≤ c.args.w) =
    elim c.then-v-self.branch [ then-v-self-via-then-v-self w ↦ inl w.if-v-self.true | then-v-self-via-else-v-self+then-w-self w ↦ inr w.if-w-self.true ] in
    metres_is c.from.result 0 c.from.ensures ∙ sym (bound_none p.nodes p.landmarks (columns p.lists) c.args.v c.args.w past)

pub loop-to-init : goal.loop-to-init
loop-to-init c = record {
  m = 0;
  passed = omega arith;
  to_size = search rules;
  to = grind (arith, common_steps);
  from_size = search rules;
  from = grind (arith, common_steps);
  best = refl;
}

pub loop-to-preserved : goal.loop-to-preserved
loop-to-preserved c =
    let p = c.args.self.now in
    let n = p.nodes in
    let l = columns p.lists in
    let k = kept p in
    let i = c.loop-to.invariant in
    let s = c.in-Some.ensures.steps in
    let f = shown n l c.args.v c.args.w in
    let to = row_next n p.landmarks i.m l.to _ k.some k.to_size i.to c.in-Some.to.now _ s.0.1.0 (s.0.1.1 ∙ i.to_size) in
    let from = row_next n p.landmarks i.m l.from _ k.some k.from_size i.from c.in-Some.from.now _ s.1.1.0 (s.1.1.1 ∙ i.from_size) in
    let here : c.gap.result ≡ f i.m = c.gap.ensures ∙ (λ j. max (get_or (to.is j) c.args.v 0 - get_or (to.is j) c.args.w 0) (get_or (from.is j) c.args.w 0 - get_or (from.is j) c.args.v 0)) in
    let best : c.max-best.result ≡ max c.loop-to.best c.gap.result = search rules in
    record {
      m = i.m + 1;
      passed = omega (arith, to.next);
      to_size = s.0.0 ∙ i.to_size;
      to = to.left;
      from_size = s.1.0 ∙ i.from_size;
      from = from.left;
      best = best ∙ (λ j. max (i.best j) (here j)) ∙ sym (ap (greatest f) (add-one i.m));
    }

pub returns : goal.returns
returns c =
    let p = c.args.self.now in
    let n = p.nodes in
    let l = columns p.lists in
    let k = kept p in
    let i = c.loop-to.invariant in
    let f = shown n l c.args.v c.args.w in
    let all : p.landmarks ≤ i.m =
    ⊎_elim
    (λ x. rows_end n p.landmarks i.m l.to _ k.some k.to_size i.to (omega (arith, x.1.1.0, i.to_size)))
    (λ x. rows_end n p.landmarks i.m l.from _ k.some k.from_size i.from (omega (arith, x.1.1.0, i.from_size)))
    c.in-None.ensures.steps in
    let last : i.m ≡ p.landmarks = omega (arith, all, i.passed) in
    metres_is c.from-2.result (greatest f p.landmarks) (c.from-2.ensures ∙ i.best ∙ ap (greatest f) last)
    ∙ sym (bound_inside n p.landmarks l c.args.v c.args.w c.if-v-self.false c.if-w-self.false)
