-- The route of the two-way search is that of a walk that costs what was met, and repeats no node.
use Rattle.std.proofs.Common.{◌≡◌, ℕ, zero, suc, ◌*◌, ◌<◌, ◌≤◌, Bool, true, false, cond, eqb, List, [], ◌∷◌, ◌++◌, reverse, length, drop, Some, None, Option, sym, refl, ap, ◌∙◌, subst, inl, inr, arith}
use mathlib.Core.List.{reverse_aux, reverse_aux-eq, reverse-reverse}
use Rattle.std.proofs.lemmas.Bool.{cases_eq, both_ways, eqb-true}
use Rattle.cost.specs.Kind.{Kind, Laws}
use Rattle.plant.specs.Floor.{Floor, FloorLaws, turned}
use Rattle.plant.specs.Walk.{walk_cost, heads}
use Rattle.plant.specs.FloorFacts.{turned_twice, turned_laws}
use Rattle.search.specs.declared.entry.Entry.{Entry}
use Rattle.search.specs.declared.row.Row.{Row}
use Rattle.search.specs.declared.row.State.{State}
use Rattle.search.specs.declared.row.State.TheVariants.{Blank, Scanned, Dropped}
use Rattle.search.specs.Answer.{RouteOf}
use Rattle.search.specs.Lists.{In, Distinct}
use Rattle.search.specs.Rows.{is_open, is_scanned}
use Rattle.search.specs.Steps.{mark, pick, trace, start_rows}
use Rattle.search.specs.TwoWay.{Both, stop_at, go_from, settle, flip, two_from, two_start, two_way, two_route}
use Rattle.search.proofs.At.{label_at, state_at, key_at, entry_at}
use Rattle.search.specs.Order.{Le, le_eq, beyond_join, not_le}
use Rattle.search.proofs.Picks.{Picked, picked_from}
use Rattle.search.proofs.Routes.{heads-append}
use Rattle.search.proofs.RowCounts.{count_open_all, open_set_less}
use Rattle.search.proofs.RowFacts.{row-set_other, row_within, labelled_row, nth_within, start_row, other_row, start_open, start_length}
use Rattle.search.proofs.SideFacts.{SideInv}
use Rattle.search.proofs.Spreads.{Exact}
use Rattle.search.proofs.States.{open_cases}
use Rattle.search.proofs.Stems.{root, stem_in, stem_distinct, stem_trace, stem_down, stem_up, Down, Up, distinct_onto, Trunk, Tree, tree_moved}
use Rattle.search.proofs.Treks.{walk-append, cost_append}
use Rattle.search.proofs.TurnFacts.{Inv, Chosen, inv_flip, chosen, settled, stopped, mark_label, spread, moved}
use Rattle.search.proofs.TwoWay.{start_inv}

-- the nodes that each side has followed, and the paths over them
pub record Paths {C : Type 0} (k : Kind C) (f : Floor C) (s t : ℕ) (b : Both C) : Type 0 where
  pub ours : List ℕ
  pub theirs : List ℕ
  pub near : Tree k f s b.near.rows ours
  pub far : Tree k (turned f) t b.far.rows theirs
  pub apart : (v : ℕ) → In v ours → In v theirs → ⊥
  pub exact : Exact k b.far.rows (record { rows = b.near.rows; met = b.met })

-- what holds between the turns, with the paths
pub record Upheld {C : Type 0} (k : Kind C) (f : Floor C) (s t : ℕ) (b : Both C) : Type 0 where
  pub inv : Inv k f s t b
  pub paths : Paths k f s t b

-- the nodes to the meeting by the near rows, and on from it by the far rows
abbrev route_over : {C : Type 0} → Kind C → Floor C → ℕ → ℕ → Both C → List ℕ
route_over k f s t b = trace k f s b.near.rows f.nodes b.met.node (drop 1 (reverse (trace k (turned f) t b.far.rows f.nodes b.met.node [])))

module _ {C : Type 0} {k : Kind C} (laws : Laws k) where
  paths_flip : {f : Floor C} {s t : ℕ} {b : Both C} → Paths k f s t b → Paths k (turned f) t s (flip b)
  paths_flip {f} {s} {t} {b} r = record {
    ours = r.theirs;
    theirs = r.ours;
    near = r.far;
    far = subst (λ x. Tree k x s b.near.rows r.ours) (sym (turned_twice f)) r.near;
    apart = λ v h j. r.apart v j h;
    exact = elim r.exact [ inl h ↦ inl h | inr h ↦ inr (subst (λ x. Le k x b.met.cost) (laws.join_comm _ _) h) ];
  }

  upheld_flip : {f : Floor C} {s t : ℕ} {b : Both C} → Upheld k f s t b → Upheld k (turned f) t s (flip b)
  upheld_flip h = record { inv = inv_flip laws h.inv; paths = paths_flip h.paths }

  upheld_unflip : {f : Floor C} {s t : ℕ} {b : Both C} → Upheld k (turned f) t s b → Upheld k f s t (flip b)
  upheld_unflip {f} {s} {t} {b} h = subst (λ x. Upheld k x s t (flip b)) (turned_twice f) (upheld_flip h)

  module _ {f : Floor C} (fl : FloorLaws k f) {s t : ℕ} (s-in : s < f.nodes) (t-in : t < f.nodes) {b : Both C} (inv : Inv k f s t b) (r : Paths k f s t b) {e : ℕ} (ch : Chosen k f t b.near.rows e) where
    mark_exact : (st : State) → Exact k b.far.rows (record { rows = mark k st b.near.rows e; met = b.met })
    mark_exact st = elim r.exact [
      | inl h ↦ inl h
      | inr h ↦ inr (subst (λ x. Le k (k.join x (label_at k b.far.rows b.met.node)) b.met.cost) (sym (mark_label laws fl s-in t-in inv ch st b.met.node)) h)
    ]

    stop_paths : (st : State) → is_open st ≡ false → Paths k f s t (stop_at k st b (entry_at k f t b.near.rows e))
    stop_paths st shut = record {
      ours = r.ours;
      theirs = r.theirs;
      near = tree_moved r.ours r.near (stopped laws fl s-in t-in inv ch st shut) inv.near.long ch.labels (λ u h. h) (λ u h. inl h) (inr (λ v n. row-set_other k b.near.rows e v _ n));
      far = r.far;
      apart = r.apart;
      exact = mark_exact st;
    }

    go_paths : is_scanned (state_at k b.far.rows e) ≡ false → Paths k f s t (go_from k f b (entry_at k f t b.near.rows e))
    go_paths un = record {
      ours = e ∷ r.ours;
      theirs = r.theirs;
      near = tree_moved (e ∷ r.ours) r.near (moved laws fl s-in t-in inv ch) inv.near.long ch.labels (λ u h. inr h) (λ u h. elim h [ inl p ↦ inr (p, refl) | inr o ↦ inl o ]) (inl (inl refl));
      far = r.far;
      apart = λ v h j. elim h [ inl p ↦ both_ways _ un (ap is_scanned (r.far.used e (subst (λ x. In x r.theirs) p j))) | inr o ↦ r.apart v o j ];
      exact = (spread laws fl s-in t-in inv ch).exact (mark_exact Scanned);
    }

    paths_settled : Paths k f s t (settle k f s b (entry_at k f t b.near.rows e))
    paths_settled = go (is_scanned (state_at k b.far.rows e)) refl (k.at_most b.met.cost (k.join (label_at k b.near.rows e) (k.rest b.far.last (f.bound s e))))
      where
        go : (x : Bool) → is_scanned (state_at k b.far.rows e) ≡ x → (y : Bool) →
            Paths k f s t (elim x [ true ↦ stop_at k Scanned b (entry_at k f t b.near.rows e) | false ↦ elim y [ true ↦ stop_at k Dropped b (entry_at k f t b.near.rows e) | false ↦ go_from k f b (entry_at k f t b.near.rows e) ] ])
        go true p y = stop_paths Scanned refl
        go false p true = stop_paths Dropped refl
        go false p false = go_paths p

  two_from_upheld : (n : ℕ) (f : Floor C) → FloorLaws k f → (s t : ℕ) → s < f.nodes → t < f.nodes → (b : Both C) → Upheld k f s t b → Upheld k f s t (two_from k f s t n b)
  two_from_upheld zero f fl s t s-in t-in b up = up
  two_from_upheld (suc n) f fl s t s-in t-in b up =
      turn (λ e h. two_from_upheld n (turned f) (turned_laws laws fl) t s t-in s-in (flip (settle k f s b e)) (upheld_flip h))
      (pick k f t (λ _. true) b.near.rows) (picked_from k laws f t (λ _. true) 0 b.near.rows)
    where
      turn : ((e : Entry C) → Upheld k f s t (settle k f s b e) → Upheld k (turned f) t s (two_from k (turned f) t s n (flip (settle k f s b e)))) →
          (o : Option (Entry C)) → Picked k f t (λ _. true) 0 b.near.rows o →
          Upheld k f s t (elim o [ None ↦ b | Some e ↦ elim (k.at_most b.met.cost e.key) [ true ↦ b | false ↦ flip (two_from k (turned f) t s n (flip (settle k f s b e))) ] ])
      turn more None none = up
      turn more (Some e) at = test (k.at_most b.met.cost e.key) refl
        where
          is : e ≡ entry_at k f t b.near.rows e.node
          is = (chosen laws up.inv.near e at).0

          ch : Chosen k f t b.near.rows e.node
          ch = (chosen laws up.inv.near e at).1

          after : Le k (key_at k f t b.near.rows e.node) b.met.cost → Upheld k f s t (settle k f s b (entry_at k f t b.near.rows e.node))
          after less = record { inv = (settled laws fl s-in t-in up.inv ch less).inv; paths = paths_settled fl s-in t-in up.inv up.paths ch }

          test : (x : Bool) → k.at_most b.met.cost e.key ≡ x → Upheld k f s t (elim x [ true ↦ b | false ↦ flip (two_from k (turned f) t s n (flip (settle k f s b e))) ])
          test true h = up
          test false h = upheld_unflip (more e (subst (λ (x : Entry C). Upheld k f s t (settle k f s b x)) (sym is) (after (subst (λ x. Le k x b.met.cost) (ap (λ (x : Entry C). x.key) is) (not_le k laws _ _ h)))))

  start_tree : (f : Floor C) (s : ℕ) → s < f.nodes → Tree k f s (start_rows k f s) []
  start_tree f s s-in = record {
    grown = λ v nb. elim (cases_eq v s) [
      | inl p ↦ subst (Trunk k f s (start_rows k f s) []) (sym p) (record {
        path = s ∷ [];
        stem = root;
        small = let a = count_open_all (start_rows k f s) in let c = start_length k f s s-in in omega arith;
        smaller = λ h. absurd (both_ways _ h (start_open k f s s-in s));
      })
      | inr n ↦ absurd (nb (ap (λ (r : Row C). r.state) (other_row k f s s-in v n)))
    ];
    used = λ v h. absurd h;
  }

  module _ (f : Floor C) (s t : ℕ) (s-in : s < f.nodes) (t-in : t < f.nodes) where
    start_upheld : Upheld k f s t (two_start k f s t)
    start_upheld = record {
      inv = start_inv laws f s t s-in t-in;
      paths = record {
        ours = [];
        theirs = [];
        near = start_tree f s s-in;
        far = start_tree (turned f) t t-in;
        apart = λ v h j. h;
        exact = ex (eqb s t) refl;
      };
    }
      where
        ex : (x : Bool) → eqb s t ≡ x → Exact k (start_rows k f t) (record { rows = start_rows k f s; met = cond x (record { cost = k.zero; node = s }) (record { cost = k.beyond; node = 0 }) })
        ex true e = inr (le_eq k laws (ap (λ (r : Row C). k.join r.label (label_at k (start_rows k f t) s)) (start_row k f s s-in) ∙ (ap (λ x. k.join k.zero (label_at k (start_rows k f t) x)) (eqb-true s t e) ∙ (ap (λ (r : Row C). k.join k.zero r.label) (start_row k f t t-in) ∙ laws.join_zero _))))
        ex false e = inl refl

    pub two_way_upheld : FloorLaws k f → Upheld k f s t (two_way k f s t)
    two_way_upheld fl = two_from_upheld (suc (2 * f.nodes)) f fl s t s-in t-in (two_start k f s t) start_upheld

  -- a stem is no longer than there are nodes
  trunk_short : {f : Floor C} {s : ℕ} {rows : List (Row C)} {old : List ℕ} {v : ℕ} → (state_at k rows v ≡ Blank → ⊥) → (t : Trunk k f s rows old v) → length t.path ≤ f.nodes
  trunk_short {f} {s} {rows} {old} {v} nb t = go (is_open (state_at k rows v)) refl
    where
      go : (x : Bool) → is_open (state_at k rows v) ≡ x → length t.path ≤ f.nodes
      go false h = let a = t.smaller h in omega arith
      go true h = elim (open_cases _ h) [
        | inl p ↦ absurd (nb p)
        | inr l ↦
            let c = open_set_less k rows v (record { label = k.zero; lane = 0; state = Scanned }) (nth_within rows v _ (labelled_row k rows v l)) h refl in
            let a = t.small in
            omega arith
      ]

  source_zero : {f : Floor C} {s t : ℕ} {rows : List (Row C)} {last m : C} → SideInv k f s t rows last m → label_at k rows s ≡ k.zero
  source_zero inv = laws.antisym _ _ inv.source (laws.zero_least _)

  module _ {f : Floor C} {s t : ℕ} {b : Both C} (held : Upheld k f s t b) (real : b.met.cost ≡ k.beyond → ⊥) where
    met_is : k.join (label_at k b.near.rows b.met.node) (label_at k b.far.rows b.met.node) ≡ b.met.cost
    met_is = elim held.paths.exact [ inl h ↦ absurd (real h) | inr h ↦ laws.antisym _ _ h (held.inv.low b.met.node) ]

    near_there : state_at k b.near.rows b.met.node ≡ Blank → ⊥
    near_there h = real (sym met_is ∙ (ap (λ x. k.join x (label_at k b.far.rows b.met.node)) (held.inv.near.void _ h) ∙ beyond_join k laws _))

    far_there : state_at k b.far.rows b.met.node ≡ Blank → ⊥
    far_there h = real (sym met_is ∙ (ap (k.join (label_at k b.near.rows b.met.node)) (held.inv.far.void _ h) ∙ (laws.join_comm _ _ ∙ beyond_join k laws _)))

    near_trunk : Trunk k f s b.near.rows held.paths.ours b.met.node
    near_trunk = held.paths.near.grown b.met.node near_there

    far_trunk : Trunk k (turned f) t b.far.rows held.paths.theirs b.met.node
    far_trunk = held.paths.far.grown b.met.node far_there

    down : Down k f s b.near.rows b.met.node near_trunk.path
    down = stem_down laws (source_zero held.inv.near) near_trunk.stem

    up : Up k f t b.far.rows b.met.node far_trunk.path
    up = stem_up laws (source_zero held.inv.far) far_trunk.stem

    back_is : reverse (trace k (turned f) t b.far.rows f.nodes b.met.node []) ≡ b.met.node ∷ heads f up.lanes
    back_is = ap reverse (stem_trace far_trunk.stem f.nodes (trunk_short far_there far_trunk) []) ∙ (reverse-reverse far_trunk.path ∙ sym up.nodes)

    trace_is : route_over k f s t b ≡ reverse_aux near_trunk.path (heads f up.lanes)
    trace_is = ap (λ x. trace k f s b.near.rows f.nodes b.met.node (drop 1 x)) back_is ∙ stem_trace near_trunk.stem f.nodes (trunk_short near_there near_trunk) (heads f up.lanes)

    back_distinct : Distinct (b.met.node ∷ heads f up.lanes)
    back_distinct = subst Distinct (sym up.nodes) (stem_distinct far_trunk.stem)

    -- no node but the meeting's stands on both stems
    stems_apart : (u : ℕ) → In u near_trunk.path → In u (heads f up.lanes) → ⊥
    stems_apart u h j = elim (stem_in near_trunk.stem u h) [
      | inl p ↦ back_distinct.0 (subst (λ x. In x (heads f up.lanes)) p j)
      | inr o ↦ elim (stem_in far_trunk.stem u (subst (In u) up.nodes (inr j))) [
        | inl p ↦ back_distinct.0 (subst (λ x. In x (heads f up.lanes)) p j)
        | inr q ↦ held.paths.apart u o q
      ]
    ]

    upheld_route : RouteOf k f s t b.met.cost (route_over k f s t b)
    upheld_route = record {
      lanes = down.lanes ++ up.lanes;
      walk = walk-append f down.lanes up.lanes s b.met.node t down.walk up.walk;
      costs = cost_append k laws f down.lanes up.lanes ∙ (ap (λ x. k.join x (walk_cost k f up.lanes)) down.costs ∙ (ap (k.join (label_at k b.near.rows b.met.node)) up.costs ∙ met_is));
      is = trace_is ∙ (reverse_aux-eq near_trunk.path (heads f up.lanes) ∙ (ap (λ (x : List ℕ). x ++ heads f up.lanes) (sym down.nodes) ∙ ap (λ (x : List ℕ). s ∷ x) (sym (heads-append f down.lanes up.lanes))));
      distinct = subst Distinct (sym trace_is) (distinct_onto near_trunk.path (heads f up.lanes) (stem_distinct near_trunk.stem) back_distinct.1 stems_apart);
    }

  pub two_way_route : {f : Floor C} → FloorLaws k f → {s t : ℕ} → s < f.nodes → t < f.nodes → ((two_way k f s t).met.cost ≡ k.beyond → ⊥) → RouteOf k f s t (two_way k f s t).met.cost (two_route k f s t)
  two_way_route {f} fl {s} {t} s-in t-in real = upheld_route (two_way_upheld f s t s-in t-in fl) real

  -- a meeting below beyond is at a node
  pub two_met_in : {f : Floor C} → FloorLaws k f → {s t : ℕ} → s < f.nodes → t < f.nodes → ((two_way k f s t).met.cost ≡ k.beyond → ⊥) → (two_way k f s t).met.node < f.nodes
  two_met_in {f} fl {s} {t} s-in t-in real =
      let held = two_way_upheld f s t s-in t-in fl in
      subst (λ n. (two_way k f s t).met.node < n) held.inv.near.long (row_within k (two_way k f s t).near.rows (two_way k f s t).met.node (near_there held real))
