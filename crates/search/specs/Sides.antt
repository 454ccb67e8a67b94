-- What is said of one side of a search: its floor, its front, and what each step of it keeps.
use Rattle.std.specs.Prelude.{◌≡◌}
use Rattle.cost.specs.declared.kind.CostKind.{Ghosts as Costs}
use Rattle.plant.specs.declared.plant.Plant.{Ghosts as Plants}
use Rattle.plant.specs.Floor.{Floor, turned}
use Rattle.search.specs.declared.entry.Entry.{Entry}
use Rattle.search.specs.declared.side.Side.{Side}
use Rattle.search.specs.Ties.{Front, Ready, Taken}

module _ {P C : Type 0} {p : Plants P C} {c : Costs C} {r : _} where
  abbrev pub floor_of : Side P C p c r → Floor C
  floor_of s = p.floor s.plant.now

  -- its queue and its rows hang together
  abbrev pub Fronted : Side P C p c r → Type 0
  Fronted s = Front c.kind (p.floor s.plant.now) s.target s.rows.now s.queue.now

  -- it may pick its next node
  abbrev pub IsReady : Side P C p c r → Type 0
  IsReady s = Ready c.kind (p.floor s.plant.now) s.target s.rows.now s.queue.now

  -- the live entry e was taken out of its queue
  abbrev pub IsTaken : Side P C p c r → Entry C → Type 0
  IsTaken s e = Taken c.kind (p.floor s.plant.now) s.target s.rows.now s.queue.now e

  -- it goes over the same plant from the same node towards the same
  pub record Kept (s s' : Side P C p c r) : Type 0 where
    pub plant : s'.plant ≡ s.plant
    pub source : s'.source ≡ s.source
    pub target : s'.target ≡ s.target

-- the far side goes the other way over the lanes turned round
pub record Facing {P Q C : Type 0} {p : Plants P C} {q : Plants Q C} {c : Costs C} {r : _} (near : Side P C p c r) (far : Side Q C q c r) : Type 0 where
  pub floor : floor_of far ≡ turned (floor_of near)
  pub source : far.source ≡ near.target
  pub target : far.target ≡ near.source
