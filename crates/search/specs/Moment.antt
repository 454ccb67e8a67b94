-- Which lanes are shut after a list of calls with their replies, and the floor at that moment.
use Rattle.std.specs.Prelude.{◌≡◌, ℕ, ◌<◌, ◌⊎◌, List, length, Some, Ok}
use Rattle.std.specs.List.{slice_get}
use Rattle.cost.specs.Kind.{Kind}
use Rattle.plant.specs.declared.lane.Lane.{Lane}
use Rattle.plant.specs.Floor.{Floor}
use Rattle.search.specs.declared.call.Call.TheVariants.{Close, Reopen}
use Rattle.search.specs.declared.reply.Done.TheVariants.{Closed, Reopened}
use Rattle.search.specs.Lists.{In, Distinct}
use Rattle.search.specs.Calls.{Event}

-- lane n was closed, or reopened: an accepted call
abbrev pub Closes : {C : Type 0} → Event C → ℕ → Type 0
Closes e n = (e.call ≡ Close n) × (e.reply ≡ Ok (Closed n))

abbrev pub Reopens : {C : Type 0} → Event C → ℕ → Type 0
Reopens e n = (e.call ≡ Reopen n) × (e.reply ≡ Ok (Reopened n))

-- some accepted close of lane n stands in the events, and no accepted close or reopen of n after it
pub record Shut {C : Type 0} (events : List (Event C)) (n : ℕ) : Type 0 where
  pub at : ℕ
  pub event : Event C
  pub there : slice_get events at ≡ Some event
  pub closes : Closes event n
  pub last : (i : ℕ) (e : Event C) → at < i → slice_get events i ≡ Some e → Closes e n ⊎ Reopens e n → ⊥

-- fewer than 64 lanes are shut
pub record Fewer {C : Type 0} (events : List (Event C)) : Type 0 where
  pub lanes : List ℕ
  pub all : (n : ℕ) → Shut events n → In n lanes
  pub few : length lanes < 64

-- 64 lanes are shut
pub record Full {C : Type 0} (events : List (Event C)) : Type 0 where
  pub lanes : List ℕ
  pub distinct : Distinct lanes
  pub each : (n : ℕ) → In n lanes → Shut events n
  pub full : length lanes ≡ 64

-- F is the floor after the events: f, with every shut lane at the cost beyond
pub record Moment {C : Type 0} (k : Kind C) (f : Floor C) (events : List (Event C)) (F : Floor C) : Type 0 where
  pub nodes : F.nodes ≡ f.nodes
  pub bounds : (v w : ℕ) → F.bound v w ≡ f.bound v w
  pub count : length F.lanes ≡ length f.lanes
  pub when_shut : (n : ℕ) (l : Lane C) → slice_get f.lanes n ≡ Some l → Shut events n → slice_get F.lanes n ≡ Some (record { tail = l.tail; head = l.head; cost = k.beyond })
  pub when_open : (n : ℕ) (l : Lane C) → slice_get f.lanes n ≡ Some l → (Shut events n → ⊥) → slice_get F.lanes n ≡ Some l
