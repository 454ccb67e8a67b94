-- What holds of a side over one floor and towards one target holds over the same floor and towards the same target.
use Rattle.std.proofs.Common.{◌≡◌, ℕ, List, sym, subst, ap}
use Rattle.cost.specs.Kind.{Kind}
use Rattle.cost.specs.declared.kind.CostKind.{Ghosts as Costs}
use Rattle.plant.specs.declared.plant.Plant.{Ghosts as Plants}
use Rattle.plant.specs.Floor.{Floor}
use Rattle.queue.specs.declared.heap.Queue.{Queue}
use Rattle.search.specs.declared.entry.Entry.{Entry}
use Rattle.search.specs.declared.meeting.Meeting.{Meeting}
use Rattle.search.specs.declared.row.Row.{Row}
use Rattle.search.specs.declared.side.Side.{Side}
use Rattle.search.specs.Sides.{floor_of, Kept}
use Rattle.search.specs.Ties.{Front, Ready, Taken}
use Rattle.search.specs.Turns.{Settles, Stays, Goes}

-- the floor of a side is that of its plant, of whatever type that is
pub floor_is : {P C : Type 0} {p : Plants P C} {c : Costs C} {r : _} (s : Side P C p c r) {x : P} → s.plant.now ≡ x → floor_of s ≡ p.floor x
floor_is {p = p} s e = ap p.floor e

pub floor_kept : {P C : Type 0} {p : Plants P C} {c : Costs C} {r : _} {s s' : Side P C p c r} → Kept s s' → floor_of s' ≡ floor_of s
floor_kept {p = p} kept i = p.floor (kept.plant i).now

module _ {C : Type 0} (k : Kind C) {f' f : Floor C} (floor : f' ≡ f) {t' t : ℕ} (target : t' ≡ t) {r : _} where
  pub front_at : {rows : List (Row C)} {q : Queue (Entry C) r} → Front k f' t' rows q → Front k f t rows q
  front_at {rows} {q} p = subst (λ (g : Floor C). Front k g t rows q) floor (subst (λ (n : ℕ). Front k f' n rows q) target p)

  pub front_from : {rows : List (Row C)} {q : Queue (Entry C) r} → Front k f t rows q → Front k f' t' rows q
  front_from {rows} {q} p = subst (λ (g : Floor C). Front k g t' rows q) (sym floor) (subst (λ (n : ℕ). Front k f n rows q) (sym target) p)

  pub ready_at : {rows : List (Row C)} {q : Queue (Entry C) r} → Ready k f' t' rows q → Ready k f t rows q
  ready_at {rows} {q} p = subst (λ (g : Floor C). Ready k g t rows q) floor (subst (λ (n : ℕ). Ready k f' n rows q) target p)

  pub ready_from : {rows : List (Row C)} {q : Queue (Entry C) r} → Ready k f t rows q → Ready k f' t' rows q
  ready_from {rows} {q} p = subst (λ (g : Floor C). Ready k g t' rows q) (sym floor) (subst (λ (n : ℕ). Ready k f n rows q) (sym target) p)

  pub taken_from : {rows rows' : List (Row C)} {q : Queue (Entry C) r} {e : Entry C} → rows' ≡ rows → Taken k f t rows q e → Taken k f' t' rows' q e
  taken_from {rows} {rows'} {q} {e} s p = subst (λ (g : Floor C). Taken k g t' rows' q e) (sym floor) (subst (λ (n : ℕ). Taken k f n rows' q e) (sym target) (subst (λ (ys : List (Row C)). Taken k f t ys q e) (sym s) p))

module _ {C : Type 0} (k : Kind C) {f' f : Floor C} (floor : f' ≡ f) {s' s : ℕ} (source : s' ≡ s) {t' t : ℕ} (target : t' ≡ t) (rows others : List (Row C)) (last : C) (met : Meeting C) where
  pub stays_at : Stays k f' s' t' rows others last met → Stays k f s t rows others last met
  stays_at p = subst (λ (g : Floor C). Stays k g s t rows others last met) floor (subst (λ (n : ℕ). Stays k f' n t rows others last met) source (subst (λ (n : ℕ). Stays k f' s' n rows others last met) target p))

  pub goes_at : (rows' : List (Row C)) (y : C) (met' : Meeting C) → Goes k f' s' t' rows rows' others last met y met' → Goes k f s t rows rows' others last met y met'
  goes_at rows' y met' p = subst (λ (g : Floor C). Goes k g s t rows rows' others last met y met') floor (subst (λ (n : ℕ). Goes k f' n t rows rows' others last met y met') source (subst (λ (n : ℕ). Goes k f' s' n rows rows' others last met y met') target p))

module _ {C : Type 0} (k : Kind C) {f' f : Floor C} (floor : f' ≡ f) {s' s : ℕ} (source : s' ≡ s) {rows₁ rows : List (Row C)} (same : rows₁ ≡ rows) (rows' others : List (Row C)) (last : C) (e : Entry C) (met met' : Meeting C) where
  pub settles_at : Settles k f' s' rows₁ rows' others last e met met' → Settles k f s rows rows' others last e met met'
  settles_at p = subst (λ (g : Floor C). Settles k g s rows rows' others last e met met') floor (subst (λ (n : ℕ). Settles k f' n rows rows' others last e met met') source (subst (λ (ys : List (Row C)). Settles k f' s' ys rows' others last e met met') same p))
