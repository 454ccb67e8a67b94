-- The floor of lawful lists keeps the laws.
use Rattle.std.proofs.Common.{◌≡◌, ℕ, ◌<◌, min, true, sym, refl, ap, ◌∙◌, subst, arith}
use Rattle.std.proofs.lemmas.Bool.{le-leb}
use Rattle.cost.specs.declared.length.Length.{Length}
use Rattle.cost.specs.Length.{length_kind}
use Rattle.cost.specs.Lengths.{same_length}
use Rattle.plant.specs.declared.lane.Lane.{Lane}
use Rattle.plant.specs.Floor.{Floor, FloorLaws}
use Rattle.plants.specs.Columns.{Columns, lane_count}
use Rattle.plants.specs.Laid.{lanes_of, greatest, shown, bound_of}
use Rattle.plants.specs.Lawful.{Lawful}
use Rattle.plants.specs.Lanes.{lane_at, lanes_length, lanes_from}
use Rattle.plants.specs.Bounds.{bound_inside, bound_none, shown_self, shown_out, shown_in}

module _ (nodes landmarks : ℕ) (c : Columns) where
  abbrev laid : Floor Length
  laid = record { nodes = nodes; lanes = lanes_of c.tails c.heads c.costs; bound = bound_of nodes landmarks c }

  abbrev lane_of : ℕ → Lane Length
  lane_of k = lane_at c.tails c.heads c.costs k

  abbrev metres : ℕ → ℕ → ℕ
  metres v w = (bound_of nodes landmarks c v w).metres

  inside : (v w : ℕ) → v < nodes → w < nodes → metres v w ≡ min (greatest (shown nodes c v w) landmarks) 4294967295
  inside v w lv lw = ap (λ (x : Length). x.metres) (bound_inside nodes landmarks c v w lv lw)

  out_holds : Lawful nodes landmarks c → (k z : ℕ) → k < lane_count c → z < nodes → length_kind.at_most (bound_of nodes landmarks c (lane_of k).tail z) (length_kind.join (lane_of k).cost (bound_of nodes landmarks c (lane_of k).head z)) ≡ true
  out_holds s k z lt lz =
      le-leb _ _ (omega (arith, inside (lane_of k).tail z (s.tails_in k lt) lz, inside (lane_of k).head z (s.heads_in k lt) lz, shown_out nodes landmarks c s k z lt))

  in_holds : Lawful nodes landmarks c → (k z : ℕ) → k < lane_count c → z < nodes → length_kind.at_most (bound_of nodes landmarks c z (lane_of k).head) (length_kind.join (bound_of nodes landmarks c z (lane_of k).tail) (lane_of k).cost) ≡ true
  in_holds s k z lt lz =
      le-leb _ _ (omega (arith, inside z (lane_of k).head lz (s.heads_in k lt), inside z (lane_of k).tail lz (s.tails_in k lt), shown_in nodes landmarks c s k z lt))

  pub laid_laws : Lawful nodes landmarks c → FloorLaws length_kind laid
  laid_laws s = record {
    some_node = s.some;
    few_nodes = s.few_nodes;
    few_lanes = omega (arith, lanes_length c.tails c.heads c.costs s.heads_size s.costs_size, s.few_lanes);
    tail_node = λ i l e. let r = lanes_from c.tails c.heads c.costs i l e in subst (λ y. y.tail < nodes) (sym r.1) (s.tails_in i r.0);
    head_node = λ i l e. let r = lanes_from c.tails c.heads c.costs i l e in subst (λ y. y.head < nodes) (sym r.1) (s.heads_in i r.0);
    bound_self = λ v lt. same_length _ _ (omega (arith, inside v v lt lt, shown_self nodes landmarks c v));
    bound_out = λ i l z e lz.
        let r = lanes_from c.tails c.heads c.costs i l e in
        let P : Lane Length → Type 0 = λ y. length_kind.at_most (bound_of nodes landmarks c y.tail z) (length_kind.join y.cost (bound_of nodes landmarks c y.head z)) ≡ true in
        subst P (sym r.1) (out_holds s i z r.0 lz);
    bound_in = λ i l z e lz.
        let r = lanes_from c.tails c.heads c.costs i l e in
        let P : Lane Length → Type 0 = λ y. length_kind.at_most (bound_of nodes landmarks c z y.head) (length_kind.join (bound_of nodes landmarks c z y.tail) y.cost) ≡ true in
        subst P (sym r.1) (in_holds s i z r.0 lz);
    bound_outside = λ v w past. bound_none nodes landmarks c v w past ∙ same_length _ _ refl;
  }
