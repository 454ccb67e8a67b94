-- What layers answer, from what the plant below them answers.
use Rattle.std.proofs.Common.{◌≡◌, ℕ, zero, suc, ◌<◌, Bool, true, false, cond, eqb, List, [], ◌∷◌, map, length, Some, None, Option, sym, refl, ap, ◌∙◌, subst, arith}
use Rattle.std.specs.List.{slice_get}
use Rattle.cost.specs.Kind.{Kind, Laws}
use Rattle.plant.specs.declared.lane.Lane.{Lane}
use Rattle.plant.specs.Floor.{Floor, FloorLaws, at_from}
use Rattle.plant.specs.Closed.{shut_lane, shut_lanes, shut}

abbrev pub over : {X Y : Type 0} → (X → Y) → Option X → Option Y
over f None = None
over f (Some x) = Some (f x)

pub nth-map : {X Y : Type 0} (f : X → Y) (xs : List X) (i : ℕ) → slice_get (map f xs) i ≡ over f (slice_get xs i)
nth-map f [] i = refl
nth-map f (x ∷ xs) zero = refl
nth-map f (x ∷ xs) (suc i) = nth-map f xs i

pub at_from-map : {C : Type 0} (at : Lane C → ℕ) (g : Lane C → Lane C) (n : ℕ) (ls : List (Lane C)) (v : ℕ) → at_from at n (map g ls) v ≡ at_from (λ l. at (g l)) n ls v
at_from-map at g n [] v = refl
at_from-map at g n (l ∷ ls) v = ap (λ r. cond (eqb (at (g l)) v) (n ∷ r) r) (at_from-map at g (suc n) ls v)

pub nth-shut : {C : Type 0} (b : C) (is : ℕ → Bool) (ls : List (Lane C)) (i : ℕ) → slice_get (shut_lanes b is ls) i ≡ over (shut_lane b (is i)) (slice_get ls i)
nth-shut b is [] i = refl
nth-shut b is (l ∷ ls) zero = refl
nth-shut b is (l ∷ ls) (suc i) = nth-shut b (λ j. is (suc j)) ls i

pub length-shut : {C : Type 0} (b : C) (is : ℕ → Bool) (ls : List (Lane C)) → length (shut_lanes b is ls) ≡ length ls
length-shut b is [] = refl
length-shut b is (l ∷ ls) = ap suc (length-shut b (λ j. is (suc j)) ls)

pub at_from-shut : {C : Type 0} (b : C) (at : Lane C → ℕ) → ((t : Bool) (l : Lane C) → at (shut_lane b t l) ≡ at l) → (is : ℕ → Bool) (n : ℕ) (ls : List (Lane C)) (v : ℕ) → at_from at n (shut_lanes b is ls) v ≡ at_from at n ls v
at_from-shut b at h is n [] v = refl
at_from-shut b at h is n (l ∷ ls) v =
    let more = at_from-shut b at h (λ j. is (suc j)) (suc n) ls v in
    λ i. cond (eqb (h (is 0) l i) v) (n ∷ more i) (more i)

-- nothing is shut
pub shut_none : {C : Type 0} (b : C) (ls : List (Lane C)) → shut_lanes b (λ _. false) ls ≡ ls
shut_none b [] = refl
shut_none b (l ∷ ls) = ap (λ x. l ∷ x) (shut_none b ls)

-- the lane below, of which l is the lane with its cost as shut
pub shut_from : {C : Type 0} (b : C) (is : ℕ → Bool) (ls : List (Lane C)) (i : ℕ) (l : Lane C) → slice_get (shut_lanes b is ls) i ≡ Some l → (m : Lane C) × ((slice_get ls i ≡ Some m) × (l ≡ shut_lane b (is i) m))
shut_from b is [] i l e = let z : ◌≡◌ {A = ℕ} 0 1 = cc in absurd (omega arith)
shut_from b is (x ∷ ls) zero l e = let same : shut_lane b (is 0) x ≡ l = cc in (x, (refl, sym same))
shut_from b is (x ∷ ls) (suc i) l e = shut_from b (λ j. is (suc j)) ls i l e

module _ {C : Type 0} {k : Kind C} (ks : Laws k) where
  beyond_most : (a x : C) → k.at_most a (k.join k.beyond x) ≡ true
  beyond_most a x =
      let grows = ks.join_mono k.zero x k.beyond (ks.zero_least x) in
      let whole : k.join k.zero k.beyond ≡ k.beyond = ks.join_comm _ _ ∙ ks.join_zero _ in
      let P : C → Type 0 = λ y. k.at_most y (k.join x k.beyond) ≡ true in
      let Q : C → Type 0 = λ y. k.at_most a y ≡ true in
      subst Q (ks.join_comm x k.beyond) (ks.trans a k.beyond _ (ks.beyond_greatest a) (subst P whole grows))

  -- a cost that is shut, or as it was
  shut_most : (t : Bool) (a c x : C) → k.at_most a (k.join c x) ≡ true → k.at_most a (k.join (cond t k.beyond c) x) ≡ true
  shut_most true a c x h = beyond_most a x
  shut_most false a c x h = h

  module _ (is : ℕ → Bool) {f : Floor C} (h : FloorLaws k f) where
    pub shut_laws : FloorLaws k (shut k is f)
    shut_laws = record {
      some_node = h.some_node;
      few_nodes = h.few_nodes;
      few_lanes = (let m = length-shut k.beyond is f.lanes in let n = h.few_lanes in omega arith);
      tail_node = λ i l e. let m = shut_from _ is f.lanes i l e in subst (λ n. n < f.nodes) (sym (ap (λ y. y.tail) m.1.1)) (h.tail_node i m.0 m.1.0);
      head_node = λ i l e. let m = shut_from _ is f.lanes i l e in subst (λ n. n < f.nodes) (sym (ap (λ y. y.head) m.1.1)) (h.head_node i m.0 m.1.0);
      bound_self = h.bound_self;
      bound_out = λ i l z e lt.
          let m = shut_from _ is f.lanes i l e in
          let P : Lane C → Type 0 = λ y. k.at_most (f.bound y.tail z) (k.join y.cost (f.bound y.head z)) ≡ true in
          subst P (sym m.1.1) (shut_most (is i) _ _ _ (h.bound_out i m.0 z m.1.0 lt));
      bound_in = λ i l z e lt.
          let m = shut_from _ is f.lanes i l e in
          let P : Lane C → Type 0 = λ y. k.at_most (f.bound z y.head) (k.join (f.bound z y.tail) y.cost) ≡ true in
          let Q : C → Type 0 = λ y. k.at_most (f.bound z m.0.head) y ≡ true in
          subst P (sym m.1.1) (subst Q (ks.join_comm _ _) (shut_most (is i) _ _ _ (subst Q (ks.join_comm _ _) (h.bound_in i m.0 z m.1.0 lt))));
      bound_outside = h.bound_outside;
    }

-- what stands at k, where it is shut and where it is not
pub shut_there : {C : Type 0} (b : C) (is : ℕ → Bool) (ls : List (Lane C)) (k : ℕ) (l : Lane C) (x : C) → Some l ≡ slice_get ls k → true ≡ is k → x ≡ b → ◌≡◌ {A = Option (Lane C)} (Some (record { tail = l.tail; head = l.head; cost = x })) (slice_get (shut_lanes b is ls) k)
shut_there b is ls k l x e t s =
    (λ i. Some (record { tail = l.tail; head = l.head; cost = s i }))
    ∙ (λ i. over (shut_lane b (t i)) (e i))
    ∙ sym (nth-shut b is ls k)

pub open_there : {C : Type 0} (b : C) (is : ℕ → Bool) (ls : List (Lane C)) (k : ℕ) (l : Lane C) → Some l ≡ slice_get ls k → false ≡ is k → Some l ≡ slice_get (shut_lanes b is ls) k
open_there b is ls k l e t = (λ i. over (shut_lane b (t i)) (e i)) ∙ sym (nth-shut b is ls k)
