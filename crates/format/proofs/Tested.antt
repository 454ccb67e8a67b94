-- The tests after the last line pass exactly when the plant is lawful, its tables' lengths and limits apart.
use Rattle.std.proofs.Common.{◌≡◌, ℕ, suc, ◌≤◌, Bool, true, false, ltb, leb, List, [], ◌∷◌, length, get_or, Some, None, Option, refl, ap, ◌∙◌, arith}
use Rattle.std.specs.List.{AllByRecursion}
use Rattle.std.proofs.lemmas.Bool.{leb-true, le-leb, ltb-true, lt-ltb, and_parts, and_from}
use Rattle.format.specs.Plain.{Lane, Mark, Plain, joined, Ends, EndsFrom, Kept}
use Rattle.format.specs.Turns.{Fault}
use Rattle.format.specs.Checks.{fits_ends, loose, failing, fits_cost, fits_table, or_mark, contradicted, at_lane, Room, has_room, has_counts, tested}

pub record Passes (p : Plain) : Type 0 where
  pub some_node : 1 ≤ p.nodes
  pub few_nodes : p.nodes ≤ 4096
  pub few_lanes : length p.lanes ≤ 16384
  pub few_marks : length p.marks ≤ 16
  pub ends : EndsFrom p.nodes 0 p.lanes
  pub cheap : AllByRecursion (λ (l : Lane). l.cost ≤ 1000000) p.lanes
  pub kept : AllByRecursion (λ (m : Mark). AllByRecursion (Kept m) p.lanes) p.marks

-- one test and the rest of the list
step : {A : Type 0} (b : Bool) (x : Option A) (a : A) → b ≡ true → x ≡ None → elim b as (λ _. Option A) [ true ↦ x | false ↦ Some a ] ≡ None
step {A} b x a p q = ap (λ (b : Bool). elim b as (λ _. Option A) [ true ↦ x | false ↦ Some a ]) p ∙ q

stepped : {A : Type 0} (b : Bool) (x : Option A) (a : A) → elim b as (λ _. Option A) [ true ↦ x | false ↦ Some a ] ≡ None → (b ≡ true) × (x ≡ None)
stepped true x a e = (refl, e)
stepped false x a e = absurd (let z : ◌≡◌ {A = ℕ} 0 1 = cc in omega arith)

ends_fit : (n prev : ℕ) (l : Lane) → Ends n prev l → fits_ends n prev l ≡ true
ends_fit n prev l h = and_from _ _ (lt-ltb l.tail n h.0) (and_from _ _ (lt-ltb l.head n h.1) (le-leb prev l.tail h.2))

fit_ends : (n prev : ℕ) (l : Lane) → fits_ends n prev l ≡ true → Ends n prev l
fit_ends n prev l e =
    let p = and_parts (ltb l.tail n) _ e in
    let q = and_parts (ltb l.head n) (leb prev l.tail) p.1 in
    (ltb-true l.tail n p.0, ltb-true l.head n q.0, leb-true prev l.tail q.1)

ends_none : (n prev k : ℕ) (ls : List Lane) → EndsFrom n prev ls → loose n prev k ls ≡ None
unfolding loose
ends_none n prev k [] h = refl
ends_none n prev k (l ∷ ls) h = step (fits_ends n prev l) _ k (ends_fit n prev l h.0) (ends_none n l.tail (suc k) ls h.1)

none_ends : (n prev k : ℕ) (ls : List Lane) → loose n prev k ls ≡ None → EndsFrom n prev ls
unfolding loose
none_ends n prev k [] e = tt
none_ends n prev k (l ∷ ls) e =
    let p = stepped (fits_ends n prev l) (loose n l.tail (suc k) ls) k e in
    (fit_ends n prev l p.0, none_ends n l.tail (suc k) ls p.1)

fit_none : {A : Type 0} (P : A → Type 0) (f : A → Bool) → ((x : A) → P x → f x ≡ true) → (k : ℕ) (xs : List A) → AllByRecursion P xs → failing f k xs ≡ None
unfolding failing
fit_none P f fit k [] h = refl
fit_none P f fit k (x ∷ xs) h = step (f x) _ k (fit x h.0) (fit_none P f fit (suc k) xs h.1)

none_fit : {A : Type 0} (P : A → Type 0) (f : A → Bool) → ((x : A) → f x ≡ true → P x) → (k : ℕ) (xs : List A) → failing f k xs ≡ None → AllByRecursion P xs
unfolding failing
none_fit P f fit k [] e = tt
none_fit P f fit k (x ∷ xs) e = let p = stepped (f x) (failing f (suc k) xs) k e in (fit x p.0, none_fit P f fit (suc k) xs p.1)

kept_fit : (m : Mark) (l : Lane) → Kept m l → fits_table m l ≡ true
kept_fit m l h = and_from _ _ (le-leb _ _ h.0) (le-leb _ _ h.1)

fit_kept : (m : Mark) (l : Lane) → fits_table m l ≡ true → Kept m l
fit_kept m l e =
    let p = and_parts (leb (get_or m.to l.tail 0) (joined l.cost (get_or m.to l.head 0))) _ e in (leb-true _ _ p.0, leb-true _ _ p.1)

kept_none : (ls : List Lane) (m n : ℕ) (ms : List Mark) → AllByRecursion (λ (m : Mark). AllByRecursion (Kept m) ls) ms → contradicted ls m n ms ≡ None
unfolding contradicted
kept_none ls m n [] h = refl
kept_none ls m n (x ∷ xs) h = rw (fit_none (Kept x) (fits_table x) (kept_fit x) 0 ls h.0) (kept_none ls (suc m) (suc n) xs h.1)

or_mark_none : (m n : ℕ) (o : Option ℕ) (more : Option Fault) → or_mark m n o more ≡ None → (o ≡ None) × (more ≡ None)
or_mark_none m n None more e = (refl, e)
or_mark_none m n (Some k) more e = absurd (let z : ◌≡◌ {A = ℕ} 0 1 = cc in omega arith)

none_kept : (ls : List Lane) (m n : ℕ) (ms : List Mark) → contradicted ls m n ms ≡ None → AllByRecursion (λ (m : Mark). AllByRecursion (Kept m) ls) ms
unfolding contradicted
none_kept ls m n [] e = tt
none_kept ls m n (x ∷ xs) e =
    let p = or_mark_none m n (failing (fits_table x) 0 ls) (contradicted ls (suc m) (suc n) xs) e in
    (none_fit (Kept x) (fits_table x) (fit_kept x) 0 ls p.0, none_kept ls (suc m) (suc n) xs p.1)

at_lane_none : (n : ℕ) (o : Option ℕ) (more : Option Fault) → at_lane n o more ≡ None → (o ≡ None) × (more ≡ None)
at_lane_none n None more e = (refl, e)
at_lane_none n (Some k) more e = absurd (let z : ◌≡◌ {A = ℕ} 0 1 = cc in omega arith)

pub passes_none : (room : Room) (p : Plain) → has_room room p ≡ true → Passes p → tested room p ≡ None
unfolding tested
passes_none room p r h = step (has_counts p) _ _
    (and_from _ _ (le-leb _ _ h.some_node) (and_from _ _ (le-leb _ _ h.few_nodes) (and_from _ _ (le-leb _ _ h.few_lanes) (le-leb _ _ h.few_marks))))
    (step (has_room room p) _ _ r (rw (ends_none p.nodes 0 0 p.lanes h.ends, fit_none (λ (l : Lane). l.cost ≤ 1000000) fits_cost (λ l q. le-leb _ _ q) 0 p.lanes h.cheap) (kept_none p.lanes 0 _ p.marks h.kept)))

pub none_passes : (room : Room) (p : Plain) → tested room p ≡ None → Passes p × (has_room room p ≡ true)
unfolding tested
none_passes room p e =
    let a = stepped (has_counts p) _ _ e in
    let r = stepped (has_room room p) _ _ a.1 in
    let b = and_parts (leb 1 p.nodes) _ a.0 in
    let c = and_parts (leb p.nodes 4096) _ b.1 in
    let d = and_parts (leb (length p.lanes) 16384) _ c.1 in
    let f = at_lane_none 3 _ _ r.1 in
    let g = at_lane_none 4 _ _ f.1 in (
      record {
        some_node = leb-true 1 p.nodes b.0;
        few_nodes = leb-true p.nodes 4096 c.0;
        few_lanes = leb-true (length p.lanes) 16384 d.0;
        few_marks = leb-true (length p.marks) 16 d.1;
        ends = none_ends p.nodes 0 0 p.lanes f.0;
        cheap = none_fit (λ (l : Lane). l.cost ≤ 1000000) fits_cost (λ l q. leb-true l.cost 1000000 q) 0 p.lanes g.0;
        kept = none_kept p.lanes 0 _ p.marks g.1;
      },
      r.0,
    )
