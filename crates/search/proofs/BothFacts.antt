-- From the turns to the answer of a call of the two-way search.
use Rattle.std.proofs.Common.{◌≡◌, ℕ, ◌<◌, ◌≤◌, true, false, List, length, take, sym, ap, ◌∙◌, subst}
use Rattle.std.proofs.lemmas.Bool.{both_ways}
use Rattle.cost.specs.Kind.{Kind, Laws}
use Rattle.plant.specs.Floor.{Floor, FloorLaws}
use Rattle.search.specs.declared.answer.Answer.{Answer}
use Rattle.search.specs.declared.answer.Both.{Both}
use Rattle.search.specs.declared.row.Row.{Row}
use Rattle.search.specs.Answer.{RightBoth, WorthBackward}
use Rattle.search.specs.Lists.{onto}
use Rattle.search.specs.Searched.{cost_of, node_count_of}
use Rattle.search.specs.SearchedBoth.{both_scanned, two_answer, two_nodes}
use Rattle.search.specs.Rows.{row_at}
use Rattle.search.specs.TwoWay.{two_way, two_route}
use Rattle.search.proofs.AnswerFacts.{right_of, cost_is}
use Rattle.search.proofs.TwoAnswers.{two_way_right, two_route_short}

module _ {C : Type 0} (k : Kind C) (f : Floor C) (start goal : ℕ) (laws : Laws k) (fl : FloorLaws k f) (start-in : start < f.nodes) (goal-in : goal < f.nodes) where
  abbrev Cost : C
  Cost = (two_way k f start goal).met.cost

  pub nodes_short : k.at_most k.beyond Cost ≡ false → length (two_route k f start goal) ≤ f.nodes
  nodes_short e = two_route_short laws fl start-in goal-in (λ p. both_ways (k.at_most k.beyond Cost) e (subst (λ (x : C). k.at_most k.beyond x ≡ true) (sym p) (laws.beyond_greatest k.beyond)))

  -- what is right of the turns is right of the answer that tells them, and of the rows and nodes that are left
  pub right_both : (a : Answer C Both) (old new : List ℕ) (near far : List (Row C)) → a ≡ two_answer k f start goal → new ≡ onto (two_nodes k f start goal) old → near ≡ (two_way k f start goal).near.rows → far ≡ (two_way k f start goal).far.rows
      → RightBoth k f start goal (cost_of k a) (take (node_count_of a) new) near far
  right_both a old new near far p q r s =
      let w = two_way_right laws fl start-in goal-in in
      record {
        right = right_of k f start goal laws w.right (both_scanned k f start goal) a old new near p q r;
        scans_back = λ v e. subst (λ (c : C). WorthBackward k f start goal c v) (sym (cost_is k laws (both_scanned k f start goal) Cost (two_route k f start goal) a p)) (w.scans_back v (ap (λ (xs : List (Row C)). (row_at k xs v).state) (sym s) ∙ e));
      }
