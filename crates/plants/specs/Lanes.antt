-- The list of lanes, by its columns.
use Rattle.std.proofs.Common.{◌≡◌, ℕ, zero, suc, ◌<◌, ◌≤◌, cond, eqb, List, [], ◌∷◌, length, get_or, Some, None, Option, sym, refl, ap, ◌∙◌, arith}
use Rattle.std.specs.List.{slice_get}
use Rattle.cost.specs.declared.length.Length.{Length}
use Rattle.cost.specs.Lengths.{same_length}
use Rattle.plant.specs.declared.lane.Lane.{Lane}
use Rattle.plant.specs.Floor.{at_from}
use Rattle.plants.specs.Index.{places}
use Rattle.plants.specs.Laid.{metres_of, lanes_of}

abbrev pub lane_at : List ℕ → List ℕ → List ℕ → ℕ → Lane Length
lane_at ts hs cs k = record { tail = get_or ts k 0; head = get_or hs k 0; cost = metres_of (get_or cs k 0) }

pub lanes_length : (ts hs cs : List ℕ) → length hs ≡ length ts → length cs ≡ length ts → length (lanes_of ts hs cs) ≡ length ts
lanes_length [] hs cs a b = refl
lanes_length (t ∷ ts) [] cs a b = absurd (omega arith)
lanes_length (t ∷ ts) (h ∷ hs) [] a b = absurd (omega arith)
lanes_length (t ∷ ts) (h ∷ hs) (c ∷ cs) a b = ap suc (lanes_length ts hs cs (omega arith) (omega arith))

lanes_at : (ts hs cs : List ℕ) (k : ℕ) → length hs ≡ length ts → length cs ≡ length ts → k < length ts → slice_get (lanes_of ts hs cs) k ≡ Some (lane_at ts hs cs k)
lanes_at [] hs cs k a b lt = absurd (omega arith)
lanes_at (t ∷ ts) [] cs k a b lt = absurd (omega arith)
lanes_at (t ∷ ts) (h ∷ hs) [] k a b lt = absurd (omega arith)
lanes_at (t ∷ ts) (h ∷ hs) (c ∷ cs) zero a b lt = refl
lanes_at (t ∷ ts) (h ∷ hs) (c ∷ cs) (suc k) a b lt = lanes_at ts hs cs k (omega arith) (omega arith) (omega arith)

pub lanes_past : (ts hs cs : List ℕ) (k : ℕ) → length ts ≤ k → slice_get (lanes_of ts hs cs) k ≡ None
lanes_past [] hs cs k le = refl
lanes_past (t ∷ ts) [] cs k le = refl
lanes_past (t ∷ ts) (h ∷ hs) [] k le = refl
lanes_past (t ∷ ts) (h ∷ hs) (c ∷ cs) zero le = absurd (omega arith)
lanes_past (t ∷ ts) (h ∷ hs) (c ∷ cs) (suc k) le = lanes_past ts hs cs k (omega arith)

-- a lane of the list is the one at its place in the columns
pub lanes_from : (ts hs cs : List ℕ) (k : ℕ) (l : Lane Length) → slice_get (lanes_of ts hs cs) k ≡ Some l → (k < length ts) × (l ≡ lane_at ts hs cs k)
lanes_from [] hs cs k l e = let z : ◌≡◌ {A = ℕ} 0 1 = cc in absurd (omega arith)
lanes_from (t ∷ ts) [] cs k l e = let z : ◌≡◌ {A = ℕ} 0 1 = cc in absurd (omega arith)
lanes_from (t ∷ ts) (h ∷ hs) [] k l e = let z : ◌≡◌ {A = ℕ} 0 1 = cc in absurd (omega arith)
lanes_from (t ∷ ts) (h ∷ hs) (c ∷ cs) zero l e = (omega arith, cc)
lanes_from (t ∷ ts) (h ∷ hs) (c ∷ cs) (suc k) l e = let r = lanes_from ts hs cs k l e in (omega (arith, r.0), r.1)

pub tail_places : (n : ℕ) (ts hs cs : List ℕ) (v : ℕ) → length hs ≡ length ts → length cs ≡ length ts → at_from (λ l. l.tail) n (lanes_of ts hs cs) v ≡ places n ts v
tail_places n [] hs cs v a b = refl
tail_places n (t ∷ ts) [] cs v a b = absurd (omega arith)
tail_places n (t ∷ ts) (h ∷ hs) [] v a b = absurd (omega arith)
tail_places n (t ∷ ts) (h ∷ hs) (c ∷ cs) v a b = ap (λ r. cond (eqb t v) (n ∷ r) r) (tail_places (suc n) ts hs cs v (omega arith) (omega arith))

pub head_places : (n : ℕ) (ts hs cs : List ℕ) (v : ℕ) → length hs ≡ length ts → length cs ≡ length ts → at_from (λ l. l.head) n (lanes_of ts hs cs) v ≡ places n hs v
head_places n [] [] cs v a b = refl
head_places n [] (h ∷ hs) cs v a b = absurd (omega arith)
head_places n (t ∷ ts) [] cs v a b = absurd (omega arith)
head_places n (t ∷ ts) (h ∷ hs) [] v a b = absurd (omega arith)
head_places n (t ∷ ts) (h ∷ hs) (c ∷ cs) v a b = ap (λ r. cond (eqb h v) (n ∷ r) r) (head_places (suc n) ts hs cs v (omega arith) (omega arith))

-- a length that holds a number is that number's
pub metres_is : (x : Length) (n : ℕ) → x.metres ≡ n → x ≡ metres_of n
metres_is x n e = same_length x (metres_of n) (omega (arith, e, x.ok))

pub lane_is : (ts hs cs : List ℕ) (k : ℕ) (x : Length) → length hs ≡ length ts → length cs ≡ length ts → k < length ts → x.metres ≡ get_or cs k 0 → ◌≡◌ {A = Option (Lane Length)} (Some (record { tail = get_or ts k 0; head = get_or hs k 0; cost = x })) (slice_get (lanes_of ts hs cs) k)
lane_is ts hs cs k x a b lt e =
    (λ i. Some (record { tail = get_or ts k 0; head = get_or hs k 0; cost = metres_is x (get_or cs k 0) e i })) ∙ sym (lanes_at ts hs cs k a b lt)
