-- The work areas that are lent to the calls on a shift, before and after them.
use Rattle.std.specs.Prelude.{◌≡◌, ℕ, List, length}
use Rattle.search.specs.declared.areas.Areas.{Areas as Lent}
use Rattle.search.specs.Calls.{Reply, Areas, areas}
use Rattle.search.specs.Served.{Made, Makes, Served, AllMade}

-- how long they are
abbrev pub lengths : {C : Type 0} → Lent C → Areas
lengths l = areas (length l.rows.now) (length l.queue.now) (length l.back_rows.now) (length l.back_queue.now) (length l.routes.now)

-- b lends the same areas as a: each by the same reference, and as long
abbrev pub SameLent : {C : Type 0} → Lent C → Lent C → Type 0
SameLent a b =
    (b.rows.ghost_name ≡ a.rows.ghost_name) × (b.back_rows.ghost_name ≡ a.back_rows.ghost_name) × (b.queue.ghost_name ≡ a.queue.ghost_name) × (b.back_queue.ghost_name ≡ a.back_queue.ghost_name) × (b.routes.ghost_name ≡ a.routes.ghost_name)
    × (length b.rows.now ≡ length a.rows.now) × (length b.back_rows.now ≡ length a.back_rows.now) × (length b.queue.now ≡ length a.queue.now) × (length b.back_queue.now ≡ length a.back_queue.now) × (length b.routes.now ≡ length a.routes.now)

-- a call was made as m says, in these areas
abbrev pub MakesIn : {C : Type 0} → Made C → ℕ → Reply C → Lent C → Lent C → Type 0
MakesIn m at r a b = Makes m at r a.rows.now b.rows.now a.back_rows.now b.back_rows.now a.routes.now b.routes.now

-- the calls were made so, in these areas
abbrev pub AllMadeIn : {C : Type 0} → Served C → List (Reply C) → List (Reply C) → Lent C → Lent C → Type 0
AllMadeIn s replies replies' a b = AllMade s replies replies' a.routes.now b.routes.now a.rows.now b.rows.now a.back_rows.now b.back_rows.now
