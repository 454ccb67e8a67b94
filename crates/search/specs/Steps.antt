-- The steps of one side of a search: what is picked, relabelled, followed, marked, scanned, counted and traced.
use Rattle.std.specs.Prelude.{ℕ, zero, suc, Bool, true, false, cond, ◌&&◌, ◌||◌, List, [], ◌∷◌, Some, None, Option, ◌==◌, nat_le, slice_set}
use Rattle.std.specs.List.{slice_get}
use Rattle.cost.specs.Kind.{Kind}
use Rattle.plant.specs.declared.lane.Lane.{Lane}
use Rattle.plant.specs.Floor.{Floor, out_of}
use Rattle.plant.specs.Walk.{lane_cost, lane_head}
use Rattle.search.specs.declared.entry.Entry.{Entry}
use Rattle.search.specs.declared.row.Row.{Row}
use Rattle.search.specs.declared.row.State.{State}
use Rattle.search.specs.declared.row.State.TheVariants.{Labelled, Scanned}
use Rattle.search.specs.Rows.{is_labelled, is_open, is_scanned, blank_rows, row_at, below}

abbrev pub key_of : {C : Type 0} → Kind C → Floor C → ℕ → Row C → ℕ → C
key_of k f target r v = k.join r.label (f.bound v target)

-- a comes before b by key, and by label where the keys are equal
abbrev pub earlier : {C : Type 0} → Kind C → Entry C → Entry C → Bool
earlier k a b = below k a.key b.key || (k.at_most a.key b.key && below k a.label b.label)

-- a comes before b, or is b, by key, then label, then number
abbrev pub ahead_of : {C : Type 0} → Kind C → Entry C → Entry C → Bool
ahead_of k a b = cond (earlier k a b) true (cond (earlier k b a) false (nat_le a.node b.node))

-- the first of a and another, whose node has a greater number
abbrev pub first_of : {C : Type 0} → Kind C → Entry C → Option (Entry C) → Option (Entry C)
first_of k a None = Some a
first_of k a (Some b) = Some (cond (earlier k b a) b a)

-- the labelled node with the smallest key, then label, then number, among the rows of the nodes from v on whose key is able
abbrev pub pick_from : {C : Type 0} → Kind C → Floor C → ℕ → (C → Bool) → ℕ → List (Row C) → Option (Entry C)
pick_from k f target able v [] = None
pick_from k f target able v (r ∷ rs) =
    let rest = pick_from k f target able (suc v) rs in
    let key = key_of k f target r v in
    cond (is_labelled r.state && able key) (first_of k (record { key = key; label = r.label; node = v }) rest) rest

-- a key with which a search goes on that looks for costs below beyond
abbrev pub in_reach : {C : Type 0} → Kind C → C → Bool
in_reach k key = below k key k.beyond

abbrev pub pick : {C : Type 0} → Kind C → Floor C → ℕ → (C → Bool) → List (Row C) → Option (Entry C)
pick k f target able rows = pick_from k f target able 0 rows

-- whether the label g is put in place of what the row has
abbrev pub is_relabelled : {C : Type 0} → Kind C → C → Row C → Bool
is_relabelled k g r = is_open r.state && below k g r.label

-- the row of the head of lane i, which is followed at the cost g
abbrev pub relabel : {C : Type 0} → Kind C → C → ℕ → Row C → Row C
relabel k g i r = cond (is_relabelled k g r) (record { label = g; lane = i; state = Labelled }) r

-- lane i is followed from a node with label g
abbrev pub follow : {C : Type 0} → Kind C → Floor C → C → List (Row C) → ℕ → List (Row C)
follow k f g rows i =
    let lane = slice_get f.lanes i in
    let w = lane_head lane in
    slice_set rows w (relabel k (k.join g (lane_cost k lane)) i (row_at k rows w))

abbrev pub follow_all : {C : Type 0} → Kind C → Floor C → C → List (Row C) → List ℕ → List (Row C)
follow_all k f g rows [] = rows
follow_all k f g rows (i ∷ is) = follow_all k f g (follow k f g rows i) is

abbrev pub mark : {C : Type 0} → Kind C → State → List (Row C) → ℕ → List (Row C)
mark k s rows v = slice_set rows v (record { label = (row_at k rows v).label; lane = (row_at k rows v).lane; state = s })

-- v becomes scanned, and its lanes out are followed by rising number
abbrev pub scan : {C : Type 0} → Kind C → Floor C → List (Row C) → ℕ → List (Row C)
scan k f rows v = follow_all k f (row_at k rows v).label (mark k Scanned rows v) (out_of f v)

abbrev pub count_scanned : {C : Type 0} → List (Row C) → ℕ
count_scanned [] = 0
count_scanned (r ∷ rs) = cond (is_scanned r.state) (suc (count_scanned rs)) (count_scanned rs)

abbrev pub start_rows : {C : Type 0} → Kind C → Floor C → ℕ → List (Row C)
start_rows k f start = slice_set (blank_rows k f.nodes) start (record { label = k.zero; lane = 0; state = Labelled })

abbrev pub lane_tail : {C : Type 0} → Option (Lane C) → ℕ
lane_tail None = 0
lane_tail (Some l) = l.tail

-- the nodes from the side's start to v, by the lanes of the rows, before `after`
abbrev pub trace : {C : Type 0} → Kind C → Floor C → ℕ → List (Row C) → ℕ → ℕ → List ℕ → List ℕ
trace k f start rows zero v after = after
trace k f start rows (suc n) v after =
    let far = trace k f start rows n (lane_tail (slice_get f.lanes (row_at k rows v).lane)) (v ∷ after) in
    cond (v == start) (v ∷ after) far

abbrev pub label_of : {C : Type 0} → Row C → C
label_of r = r.label
