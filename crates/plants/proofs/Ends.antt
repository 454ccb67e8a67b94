-- The lanes at a node, as the index lists have them.
use Rattle.std.proofs.Common.{◌≡◌, ℕ, suc, ◌+◌, ◌-◌, ◌<◌, ◌≤◌, List, length, get_or, Some, None, Option, IfSome, IfNone, sym, ap, ◌∙◌, ⊎_elim, arith}
use Rattle.std.specs.List.{slice_get}
use Rattle.std.proofs.lemmas.Option.{slice_get-get_or, slice_get_past}
use Rattle.std.proofs.lemmas.Bool.{cases_lt}
use Rattle.plant.specs.Floor.{at_from}
use Rattle.plants.specs.Columns.{Columns}
use Rattle.plants.specs.Index.{below, places, firsts}
use Rattle.plants.specs.Laid.{lanes_of}
use Rattle.plants.specs.Lawful.{Lawful}
use Rattle.plants.proofs.Counted.{count_places, no_places}
use Rattle.plants.proofs.Counting.{below_length}
use Rattle.plants.proofs.Each.{firsts_at}
use Rattle.plants.proofs.Rising.{rising, row_at}
use Rattle.plants.proofs.HeadRows.{grouped_at}
use Rattle.plants.specs.Lanes.{tail_places, head_places}

-- what the first-list of some ends has at a node, and past it
record Span (first ends : List ℕ) (v : ℕ) : Type 0 where
  start : get_or first v 0 ≡ below v ends
  count : get_or first v 0 + length (places 0 ends v) ≡ get_or first (v + 1) 0
  within : get_or first (v + 1) 0 ≤ length ends

span : (nodes : ℕ) (first ends : List ℕ) (v : ℕ) → first ≡ firsts nodes ends → v < nodes → Span first ends v
span nodes first ends v e lt =
    let start : get_or first v 0 ≡ below v ends = ap (λ l. get_or l v 0) e ∙ firsts_at nodes ends v (omega arith) in
    let one : v + 1 ≡ suc v = omega arith in
    let past : get_or first (v + 1) 0 ≡ below (suc v) ends = (λ i. get_or (e i) (one i) 0) ∙ firsts_at nodes ends (suc v) (omega arith) in
    record {
      start = start;
      count = omega (arith, start, past, count_places 0 v ends);
      within = omega (arith, past, below_length (suc v) ends);
    }

module _ (nodes landmarks : ℕ) (c : Columns) (s : Lawful nodes landmarks c) where
  abbrev out-list : ℕ → List ℕ
  out-list v = at_from (λ l. l.tail) 0 (lanes_of c.tails c.heads c.costs) v

  abbrev into-list : ℕ → List ℕ
  into-list v = at_from (λ l. l.head) 0 (lanes_of c.tails c.heads c.costs) v

  out_is : (v : ℕ) → out-list v ≡ places 0 c.tails v
  out_is v = tail_places 0 c.tails c.heads c.costs v s.heads_size s.costs_size

  into_is : (v : ℕ) → into-list v ≡ places 0 c.heads v
  into_is v = head_places 0 c.tails c.heads c.costs v s.heads_size s.costs_size

  pub out_rises : (v : ℕ) → v < nodes → get_or c.first_out v 0 ≤ get_or c.first_out (v + 1) 0
  out_rises v lt = let p = span nodes c.first_out c.tails v s.outs lt in omega (arith, p.count)

  pub into_rises : (v : ℕ) → v < nodes → get_or c.first_in v 0 ≤ get_or c.first_in (v + 1) 0
  into_rises v lt = let p = span nodes c.first_in c.heads v s.ins lt in omega (arith, p.count)

  pub into_within : (v : ℕ) → v < nodes → get_or c.first_in (v + 1) 0 ≤ length c.by_head
  into_within v lt = let p = span nodes c.first_in c.heads v s.ins lt in omega (arith, p.within, s.heads_size, s.by_size)

  pub out_at : (v j : ℕ) → v < nodes → j < get_or c.first_out (v + 1) 0 - get_or c.first_out v 0 → slice_get (out-list v) j ≡ Some (get_or c.first_out v 0 + j)
  out_at v j lt here =
      let p = span nodes c.first_out c.tails v s.outs lt in
      let found : j < length (places 0 c.tails v) = omega (arith, p.count) in
      let number : get_or (places 0 c.tails v) j 0 ≡ get_or c.first_out v 0 + j = omega (arith, row_at 0 0 v j c.tails (rising c.tails s.ascends) found, p.start) in
      ap (λ l. slice_get l j) (out_is v) ∙ slice_get-get_or (places 0 c.tails v) j 0 found ∙ ap Some number

  pub out_past : (v j : ℕ) → v < nodes → get_or c.first_out (v + 1) 0 - get_or c.first_out v 0 ≤ j → slice_get (out-list v) j ≡ None
  out_past v j lt past =
      let p = span nodes c.first_out c.tails v s.outs lt in
      ap (λ l. slice_get l j) (out_is v) ∙ slice_get_past (places 0 c.tails v) j (omega (arith, p.count))

  pub out_outside : (v j : ℕ) → nodes ≤ v → slice_get (out-list v) j ≡ None
  out_outside v j past = ap (λ l. slice_get l j) (out_is v ∙ no_places 0 v nodes c.tails s.tails_in past)

  pub into_at : (v j : ℕ) → v < nodes → j < get_or c.first_in (v + 1) 0 - get_or c.first_in v 0 → slice_get (into-list v) j ≡ Some (get_or c.by_head (get_or c.first_in v 0 + j) 0)
  into_at v j lt here =
      let p = span nodes c.first_in c.heads v s.ins lt in
      let found : j < length (places 0 c.heads v) = omega (arith, p.count) in
      let start = sym p.start in
      ap (λ l. slice_get l j) (into_is v) ∙ slice_get-get_or (places 0 c.heads v) j 0 found
      ∙ ap Some (sym (grouped_at nodes c.heads v j lt found) ∙ (λ i. get_or (sym s.by i) (start i + j) 0))

  pub into_past : (v j : ℕ) → v < nodes → get_or c.first_in (v + 1) 0 - get_or c.first_in v 0 ≤ j → slice_get (into-list v) j ≡ None
  into_past v j lt past =
      let p = span nodes c.first_in c.heads v s.ins lt in
      ap (λ l. slice_get l j) (into_is v) ∙ slice_get_past (places 0 c.heads v) j (omega (arith, p.count))

  pub into_outside : (v j : ℕ) → nodes ≤ v → slice_get (into-list v) j ≡ None
  into_outside v j past =
      let heads_in : (k : ℕ) → k < length c.heads → get_or c.heads k 0 < nodes = λ k lt. s.heads_in k (omega (arith, s.heads_size)) in
      ap (λ l. slice_get l j) (into_is v ∙ no_places 0 v nodes c.heads heads_in past)

  -- the place that is found, or that none is, by the first-out list
  out_some : (v j place : ℕ) → v + 1 < length c.first_out → place ≡ get_or c.first_out v 0 + j → place < get_or c.first_out (v + 1) 0 → slice_get (out-list v) j ≡ Some place
  out_some v j place inside is below = out_at v j (omega (arith, s.outs_size)) (omega arith) ∙ ap Some (sym is)

  out_none : (v j : ℕ) → (v + 1 < length c.first_out → get_or c.first_out (v + 1) 0 ≤ get_or c.first_out v 0 + j) → slice_get (out-list v) j ≡ None
  out_none v j past = ⊎_elim (λ lt. out_past v j lt (omega (arith, past (omega (arith, s.outs_size))))) (out_outside v j) (cases_lt v nodes)

  pub out_nth : (v j : ℕ) (r : Option ℕ) → IfSome r (λ place. (v + 1 < length c.first_out) × (place ≡ get_or c.first_out v 0 + j) × (place < get_or c.first_out (v + 1) 0)) → IfNone r (v + 1 < length c.first_out → get_or c.first_out (v + 1) 0 ≤ get_or c.first_out v 0 + j) → r ≡ slice_get (out-list v) j
  out_nth v j None some none = sym (out_none v j none)
  out_nth v j (Some place) some none = sym (out_some v j place some.0 some.1 some.2)

  -- the same for the first-in list
  pub into_some : (v j place : ℕ) → v + 1 < length c.first_in → place ≡ get_or c.first_in v 0 + j → place < get_or c.first_in (v + 1) 0 → slice_get (into-list v) j ≡ Some (get_or c.by_head place 0)
  into_some v j place inside is below = into_at v j (omega (arith, s.ins_size)) (omega arith) ∙ ap (λ (p : ℕ). Some (get_or c.by_head p 0)) (sym is)

  pub into_none : (v j : ℕ) → (v + 1 < length c.first_in → get_or c.first_in (v + 1) 0 ≤ get_or c.first_in v 0 + j) → slice_get (into-list v) j ≡ None
  into_none v j past = ⊎_elim (λ lt. into_past v j lt (omega (arith, past (omega (arith, s.ins_size))))) (into_outside v j) (cases_lt v nodes)
