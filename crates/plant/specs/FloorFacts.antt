-- Turned and blinded floors: their lanes, and their laws from those of the floor.
use Rattle.std.proofs.Common.{◌≡◌, ℕ, zero, suc, List, [], ◌∷◌, map, Some, refl, ap, subst, inl, inr, arith}
use Rattle.std.proofs.lemmas.List.{length-map}
use Rattle.std.specs.List.{slice_get}
use Rattle.cost.specs.Kind.{Kind, Laws}
use Rattle.plant.specs.declared.lane.Lane.{Lane}
use Rattle.plant.specs.Floor.{Floor, FloorLaws, turn, turned, blinded}

-- a lane of the floor is a lane of the turned floor, turned
pub lane_turned : {C : Type 0} (ls : List (Lane C)) (i : ℕ) (l : Lane C) → slice_get ls i ≡ Some l → slice_get (map turn ls) i ≡ Some (turn l)
lane_turned [] i l e = let z : ◌≡◌ {A = ℕ} 0 1 = cc in absurd (omega arith)
lane_turned (x ∷ ls) zero l e = let same : x ≡ l = cc in ap (λ y. Some (turn y)) same
lane_turned (x ∷ ls) (suc i) l e = lane_turned ls i l e

pub turn_twice : {C : Type 0} (ls : List (Lane C)) → map turn (map turn ls) ≡ ls
turn_twice [] = refl
turn_twice (l ∷ ls) = ap (λ x. l ∷ x) (turn_twice ls)

-- and back
pub turned_lane : {C : Type 0} (ls : List (Lane C)) (i : ℕ) (l : Lane C) → slice_get (map turn ls) i ≡ Some l → slice_get ls i ≡ Some (turn l)
turned_lane ls i l e = subst (λ x. slice_get x i ≡ Some (turn l)) (turn_twice ls) (lane_turned (map turn ls) i l e)

pub turned_twice : {C : Type 0} (f : Floor C) → turned (turned f) ≡ f
turned_twice f = ap (λ ls. record { nodes = f.nodes; lanes = ls; bound = f.bound }) (turn_twice f.lanes)

module _ {C : Type 0} {k : Kind C} (laws : Laws k) {f : Floor C} (fl : FloorLaws k f) where
  pub turned_laws : FloorLaws k (turned f)
  turned_laws = record {
    some_node = fl.some_node;
    few_nodes = fl.few_nodes;
    few_lanes = (let m = length-map f.lanes turn in let n = fl.few_lanes in omega arith);
    tail_node = λ i l e. fl.head_node i (turn l) (turned_lane f.lanes i l e);
    head_node = λ i l e. fl.tail_node i (turn l) (turned_lane f.lanes i l e);
    bound_self = fl.bound_self;
    bound_out = λ i l z e h. rw laws.join_comm (fl.bound_in i (turn l) z (turned_lane f.lanes i l e) h);
    bound_in = λ i l z e h. rw laws.join_comm (fl.bound_out i (turn l) z (turned_lane f.lanes i l e) h);
    bound_outside = λ v w out. fl.bound_outside w v (elim out [ inl h ↦ inr h | inr h ↦ inl h ]);
  }

  pub blinded_laws : FloorLaws k (blinded k f)
  blinded_laws = record {
    some_node = fl.some_node;
    few_nodes = fl.few_nodes;
    few_lanes = fl.few_lanes;
    tail_node = fl.tail_node;
    head_node = fl.head_node;
    bound_self = λ v h. refl;
    bound_out = λ i l z e h. laws.zero_least _;
    bound_in = λ i l z e h. laws.zero_least _;
    bound_outside = λ v w out. refl;
  }
