-- Following lanes with a watcher, as the code of a side does it, and what it comes to for each watcher.
use Rattle.std.proofs.Common.{◌≡◌, ℕ, ◌+◌, ◌<◌, ◌≤◌, Bool, true, false, cond, List, [], ◌∷◌, length, drop, set, Some, None, Option, sym, refl, ap, ◌∙◌, subst, arith}
use Rattle.std.specs.List.{slice_get}
use Rattle.std.proofs.lemmas.List.{drop_all}
use Rattle.std.proofs.lemmas.Bool.{cond-false, cond_both, and_right, not_from_true}
use Rattle.cost.specs.Kind.{Kind, Laws}
use Rattle.plant.specs.declared.lane.Lane.{Lane}
use Rattle.plant.specs.Floor.{Floor, FloorLaws}
use Rattle.plant.specs.Walk.{lane_cost, lane_head}
use Rattle.search.specs.declared.meeter.Meeter.{Meeter}
use Rattle.search.specs.declared.meeting.Meeting.{Meeting}
use Rattle.search.specs.declared.row.Row.{Row}
use Rattle.search.specs.Heard.{Heard, heard, follow_heard, follow_all_heard}
use Rattle.search.specs.Meets.{met_at}
use Rattle.search.specs.Rows.{row_at, below, is_open}
use Rattle.search.specs.Steps.{is_relabelled, relabel, follow, follow_all}
use Rattle.search.specs.TwoWay.{Spread, spread, meet, follow_meet, follow_all_meet}
use Rattle.search.specs.Order.{Le, le_trans, le_join}
use Rattle.search.proofs.OutFacts.{drop_nth}
use Rattle.search.proofs.TieFacts.{relabel_dear, set_kept}

module _ {C W : Type 0} (tell : W → ℕ → C → W) (k : Kind C) (f : Floor C) (g : C) where
  -- what lane o does, were it lane i
  step : ℕ → List (Row C) → W → Option (Lane C) → Heard C W
  step i rows watch o =
      let w = lane_head o in
      let c = k.join g (lane_cost k o) in
      let r = row_at k rows w in
      heard (set rows w (relabel k c i r)) (cond (is_relabelled k c r) (tell watch w c) watch)

  is_step : (i : ℕ) (rows : List (Row C)) (watch : W) → follow_heard tell k f g (heard rows watch) i ≡ step i rows watch (slice_get f.lanes i)
  unfolding step
  is_step i rows watch = refl

  -- no lane is followed where there is none
  pub heard_none : Laws k → (rows : List (Row C)) (watch : W) (i : ℕ) → 0 < length rows → slice_get f.lanes i ≡ None → heard rows watch ≡ follow_heard tell k f g (heard rows watch) i
  unfolding step
  heard_none laws rows watch i h e =
      let r = row_at k rows 0 in
      let c = k.join g k.beyond in
      let far : Le k r.label c = le_trans k laws (laws.beyond_greatest r.label) (subst (λ x. Le k k.beyond x) (laws.join_comm k.beyond g) (le_join k laws k.beyond g)) in
      let kept : set rows 0 (relabel k c i r) ≡ rows = set_kept k rows 0 (relabel k c i r) h (relabel_dear k c i r far) in
      let dear : is_relabelled k c r ≡ false = and_right (is_open r.state) (below k c r.label) (not_from_true (k.at_most r.label c) far) in
      sym (is_step i rows watch ∙ ap (step i rows watch) e
      ∙ (λ j. heard (kept j) (cond-false (is_relabelled k c r) (tell watch 0 c) watch dear j)))

  -- the loop over the lanes out of a node
  pub heard_more : (s s' s₀ : Heard C W) (is : List ℕ) (j i : ℕ) → slice_get is j ≡ Some i → s' ≡ follow_heard tell k f g s i → follow_all_heard tell k f g s (drop j is) ≡ follow_all_heard tell k f g s₀ is → follow_all_heard tell k f g s' (drop (j + 1) is) ≡ follow_all_heard tell k f g s₀ is
  heard_more s s' s₀ is j i e r inv =
      ap (λ (x : Heard C W). follow_all_heard tell k f g x (drop (j + 1) is)) r ∙ sym (ap (follow_all_heard tell k f g s) (drop_nth is j (j + 1) i (omega arith) e)) ∙ inv

  pub heard_done : (s s₀ : Heard C W) (is : List ℕ) (j : ℕ) → length is ≤ j → follow_all_heard tell k f g s (drop j is) ≡ follow_all_heard tell k f g s₀ is → s ≡ follow_all_heard tell k f g s₀ is
  heard_done s s₀ is j h inv = sym (ap (follow_all_heard tell k f g s) (drop_all j is h)) ∙ inv

  -- whoever watches, the rows are those of following alone
  pub heard_rows : (is : List ℕ) (s : Heard C W) → (follow_all_heard tell k f g s is).rows ≡ follow_all k f g s.rows is
  heard_rows [] s = refl
  heard_rows (i ∷ is) s = heard_rows is (follow_heard tell k f g s i)

  pub followed_rows : (rows rows' : List (Row C)) (watch watch' : W) (is : List ℕ) → heard rows' watch' ≡ follow_all_heard tell k f g (heard rows watch) is → rows' ≡ follow_all k f g rows is
  followed_rows rows rows' watch watch' is e = ap (λ (s : Heard C W). s.rows) e ∙ heard_rows is (heard rows watch)

-- where the watcher is that of a two-way search
module _ {C : Type 0} (k : Kind C) (f : Floor C) (g : C) where
  abbrev meeter : Meeter C → Meeting C → Meeter C
  meeter m met = record { others = m.others; met = met }

  cond_met : (m : Meeter C) (x y : Meeting C) (b : Bool) → cond b (meeter m x) (meeter m y) ≡ meeter m (cond b x y)
  cond_met m x y true = refl
  cond_met m x y false = refl

  met_step : (rows : List (Row C)) (m : Meeter C) (i : ℕ) →
      let s = follow_meet k f m.others.now g (spread rows m.met) i in
      follow_heard (met_at k) k f g (heard rows m) i ≡ heard s.rows (meeter m s.met)
  met_step rows m i =
      let lane = slice_get f.lanes i in
      let w = lane_head lane in
      let c = k.join g (lane_cost k lane) in
      ap (λ (x : Meeter C). heard (follow k f g rows i) x) (cond_met m (meet k (k.join c (row_at k m.others.now w).label) w m.met) m.met (is_relabelled k c (row_at k rows w)))

  met_all : (is : List ℕ) (rows : List (Row C)) (m : Meeter C) →
      let s = follow_all_meet k f m.others.now g (spread rows m.met) is in
      follow_all_heard (met_at k) k f g (heard rows m) is ≡ heard s.rows (meeter m s.met)
  met_all [] rows m = refl
  met_all (i ∷ is) rows m =
      let s = follow_meet k f m.others.now g (spread rows m.met) i in
      ap (λ (x : Heard C (Meeter C)). follow_all_heard (met_at k) k f g x is) (met_step rows m i) ∙ met_all is s.rows (meeter m s.met)

  -- the rows and the meeting are those of the definition
  pub meets : (is : List ℕ) (rows rows' : List (Row C)) (m m' : Meeter C) → heard rows' m' ≡ follow_all_heard (met_at k) k f g (heard rows m) is → spread rows' m'.met ≡ follow_all_meet k f m.others.now g (spread rows m.met) is
  meets is rows rows' m m' e = ap (λ (x : Heard C (Meeter C)). spread x.rows x.watch.met) (e ∙ met_all is rows m)

  -- a lane's head is a node, and so is where the sides meet
  head_within : FloorLaws k f → (i : ℕ) → lane_head (slice_get f.lanes i) < f.nodes
  head_within fl i = go (slice_get f.lanes i) refl
    where
      go : (o : Option (Lane C)) → slice_get f.lanes i ≡ o → lane_head o < f.nodes
      go None e = fl.some_node
      go (Some l) e = fl.head_node i l e

  pub meets_within : FloorLaws k f → (others : List (Row C)) (is : List ℕ) (s : Spread C) → s.met.node < f.nodes → (follow_all_meet k f others g s is).met.node < f.nodes
  meets_within fl others [] s h = h
  meets_within fl others (i ∷ is) s h =
      let lane = slice_get f.lanes i in
      let w = lane_head lane in
      let c = k.join g (lane_cost k lane) in
      let d = k.join c (row_at k others w).label in
      meets_within fl others is (follow_meet k f others g s i)
      (cond_both (is_relabelled k c (row_at k s.rows w)) (meet k d w s.met) s.met (λ (x : Meeting C). x.node < f.nodes)
      (λ _. cond_both (below k d s.met.cost) (record { cost = d; node = w }) s.met (λ (x : Meeting C). x.node < f.nodes) (λ _. head_within fl i) (λ _. h))
      (λ _. h))
