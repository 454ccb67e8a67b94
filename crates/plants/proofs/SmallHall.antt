-- Small halls by their definition: the rows 1 5 2 and 1 3 2, and one column of two cells.
use Rattle.std.proofs.Common.{◌≡◌, [], ◌∷◌, map, refl}
use Rattle.cost.specs.declared.class.Class.{Class}
use Rattle.plant.specs.declared.lane.Lane.{Lane}
use Rattle.plant.specs.Floor.{Floor, out_of, into_of}
use Rattle.plants.specs.Hall.{grid}

abbrev small : Floor Class
small = grid 6 3 (1 ∷ 5 ∷ 2 ∷ 1 ∷ 3 ∷ 2 ∷ [])

heads : map (λ (l : Lane Class). l.head) small.lanes ≡ 0 ∷ 1 ∷ 3 ∷ 0 ∷ 1 ∷ 2 ∷ 4 ∷ 0 ∷ 2 ∷ 2 ∷ 5 ∷ 1 ∷ 0 ∷ 4 ∷ 3 ∷ 3 ∷ 1 ∷ 5 ∷ 4 ∷ 3 ∷ 2 ∷ 5 ∷ 5 ∷ 4 ∷ []
heads = refl

grades : map (λ (l : Lane Class). l.cost.grade) small.lanes ≡ 255 ∷ 5 ∷ 1 ∷ 255 ∷ 255 ∷ 2 ∷ 3 ∷ 1 ∷ 255 ∷ 255 ∷ 2 ∷ 5 ∷ 1 ∷ 3 ∷ 255 ∷ 255 ∷ 5 ∷ 2 ∷ 255 ∷ 1 ∷ 2 ∷ 255 ∷ 255 ∷ 3 ∷ []
grades = refl

out_of_middle : out_of small 4 ≡ 16 ∷ 17 ∷ 18 ∷ 19 ∷ []
out_of_middle = refl

into_middle : into_of small 4 ≡ 6 ∷ 13 ∷ 18 ∷ 23 ∷ []
into_middle = refl

into_corner : into_of small 0 ≡ 0 ∷ 3 ∷ 7 ∷ 12 ∷ []
into_corner = refl

bound_there : (small.bound 0 4).grade ≡ 3
bound_there = refl

bound_here : (small.bound 4 4).grade ≡ 0
bound_here = refl

-- in one column the cell before is to the north, and none is to the west
into_column : into_of (grid 2 1 (1 ∷ 5 ∷ [])) 1 ≡ 2 ∷ 5 ∷ 6 ∷ 7 ∷ []
into_column = refl
