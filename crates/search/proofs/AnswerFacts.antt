-- From the steps to the answer of a call.
use Rattle.std.proofs.Common.{◌≡◌, ℕ, ◌≤◌, Bool, true, false, cond, List, [], ◌++◌, length, take, drop, Some, None, Option, sym, refl, ap, ◌∙◌, subst, take-append-drop}
use lib.Seq.{take-append_seam}
use Rattle.std.proofs.lemmas.List.{length-take-le}
use Rattle.cost.specs.Kind.{Kind, Laws}
use Rattle.plant.specs.Floor.{Floor}
use Rattle.search.specs.declared.answer.Answer.{Answer}
use Rattle.search.specs.declared.answer.Route.{Route}
use Rattle.search.specs.declared.row.Row.{Row}
use Rattle.search.specs.Answer.{Right}
use Rattle.search.specs.Lists.{onto}
use Rattle.search.specs.Searched.{answer_of, nodes_of, cost_told, count_told, cost_of, node_count_of}
use Rattle.search.specs.Order.{is_beyond}

-- what was written over the first n entries
pub written : {A : Type 0} (n : ℕ) (new old told : List A) → n ≤ length new → take n new ≡ told → drop n new ≡ drop n old → (n ≡ length told) × (new ≡ onto told old)
written n new old told le front back =
    let long : n ≡ length told = sym (length-take-le n new le) ∙ ap length front in
    (long, sym (take-append-drop n new) ∙ (λ i. front i ++ back i) ∙ ap (λ (m : ℕ). told ++ drop m old) long)

-- the route that is told of a cost and its nodes, where b says whether the cost is beyond
abbrev pub route_when : {C : Type 0} → C → List ℕ → Bool → Option (Route C)
route_when c nodes b = cond b None (Some (record { cost = c; nodes = length nodes }))

-- what is right of a cost and its nodes is right of the answer that tells them: of no nodes where the cost is beyond
module _ {C : Type 0} (k : Kind C) (f : Floor C) (s t : ℕ) (laws : Laws k) {c : C} {nodes : List ℕ} {rows : List (Row C)} (w : Right k f s t c nodes rows) where
  right_when : (b : Bool) (old : List ℕ) → k.at_most k.beyond c ≡ b → Right k f s t (cost_told k (route_when c nodes b)) (take (count_told (route_when c nodes b)) (onto (cond b [] nodes) old)) rows
  right_when true old e =
      let at : Right k f s t k.beyond nodes rows = subst (λ (x : C). Right k f s t x nodes rows) (is_beyond k laws c e) w in
      record { optimal = at.optimal; route = λ n. absurd (n refl); beyond = at.beyond; scans = at.scans }
  right_when false old e = subst (λ (xs : List ℕ). Right k f s t c xs rows) (sym (take-append_seam nodes (drop (length nodes) old))) w

  pub right_of : {N : Type 0} (scanned : N) (a : Answer C N) (old new : List ℕ) (rows' : List (Row C)) → a ≡ answer_of k scanned c nodes → new ≡ onto (nodes_of k c nodes) old → rows' ≡ rows
      → Right k f s t (cost_of k a) (take (node_count_of a) new) rows'
  right_of {N} scanned a old new rows' p q r =
      let A : Answer C N = answer_of k scanned c nodes in
      subst (λ (x : Answer C N). Right k f s t (cost_of k x) (take (node_count_of x) new) rows') (sym p)
      (subst (λ (xs : List ℕ). Right k f s t (cost_of k A) (take (node_count_of A) xs) rows') (sym q)
      (subst (λ (xs : List (Row C)). Right k f s t (cost_of k A) (take (node_count_of A) (onto (nodes_of k c nodes) old)) xs) (sym r)
      (right_when (k.at_most k.beyond c) old refl)))

-- the cost that is told is the cost
module _ {C N : Type 0} (k : Kind C) (laws : Laws k) (scanned : N) (c : C) (nodes : List ℕ) where
  cost_when : (b : Bool) → k.at_most k.beyond c ≡ b → cost_told k (route_when c nodes b) ≡ c
  cost_when true e = sym (is_beyond k laws c e)
  cost_when false e = refl

  pub cost_is : (a : Answer C N) → a ≡ answer_of k scanned c nodes → cost_of k a ≡ c
  cost_is a e = ap (λ (x : Answer C N). cost_of k x) e ∙ cost_when (k.at_most k.beyond c) refl
