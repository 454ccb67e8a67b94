-- The definition's tests of lanes and landmarks find what the tests of their columns find.
use Rattle.std.proofs.Common.{◌≡◌, ℕ, zero, suc, ◌+◌, ◌<◌, ◌≤◌, ◌&&◌, Bool, true, false, cond, nat_lt, nat_le, List, [], ◌∷◌, map, length, get_or, Some, None, Option, sym, refl, ap, ◌∙◌, arith}
use Rattle.std.proofs.lemmas.List.{length-map, get_or-map}
use Rattle.plants.specs.declared.fault.PlantFault.{PlantFault}
use Rattle.plants.specs.declared.fault.PlantFault.TheVariants.{Ends, Cost, Table}
use Rattle.plants.specs.Faults.{first_failing, or_else, tail_before, ends_fit, cost_fits, table_fits}
use Rattle.format.specs.declared.fault.ReadFault.TheVariants.{Plant}
use Rattle.format.specs.Plain.{Lane, Mark, Plain, joined, tails, heads, costs}
use Rattle.format.specs.Turns.{Fault}
use Rattle.format.specs.Checks.{fits_ends, loose, failing, fits_cost, fits_table, or_mark, contradicted, at_lane}
use Rattle.format.specs.Faults.{later, line_of, told}
use Rattle.format.specs.Judged.{marks_fault, columns_fault}

-- a column's lane where there is none
abbrev none : Lane
none = record { tail = 0; head = 0; cost = 0 }

abbrev tail_of : Lane → ℕ
tail_of l = l.tail

abbrev head_of : Lane → ℕ
head_of l = l.head

abbrev cost_of : Lane → ℕ
cost_of l = l.cost

-- one test and the rest of the walk
turn : (b c : Bool) (x y : Option ℕ) (k : ℕ) → b ≡ c → x ≡ y → cond b x (Some k) ≡ elim c as (λ _. Option ℕ) [ true ↦ y | false ↦ Some k ]
turn b c x y k p q = ap (λ b. cond b x (Some k)) p ∙ by c
  where
    by : (c : Bool) → cond c x (Some k) ≡ elim c as (λ _. Option ℕ) [ true ↦ y | false ↦ Some k ]
    by true = q
    by false = refl

failing_is : {A : Type 0} (f : A → Bool) (fits : ℕ → Bool) (d : A) (k : ℕ) (xs : List A) → ((i j : ℕ) → j ≡ k + i → i < length xs → fits j ≡ f (get_or xs i d)) → first_failing fits k (length xs) ≡ failing f k xs
unfolding failing
failing_is f fits d k [] each = refl
failing_is f fits d k (x ∷ xs) each =
    turn (fits k) (f x) _ _ k (each 0 k (omega arith) (omega arith)) (failing_is f fits d (suc k) xs (λ i j e lt. each (suc i) j (omega arith) (omega arith)))

-- the tail before lane i
abbrev before : ℕ → List Lane → ℕ → ℕ
before prev ls zero = prev
before prev ls (suc i) = (get_or ls i none).tail

before_next : (prev : ℕ) (l : Lane) (ls : List Lane) (i : ℕ) → before prev (l ∷ ls) (suc i) ≡ before l.tail ls i
before_next prev l ls zero = refl
before_next prev l ls (suc i) = refl

loose_is : (nodes : ℕ) (fits : ℕ → Bool) (prev k : ℕ) (ls : List Lane) → ((i j : ℕ) → j ≡ k + i → i < length ls → fits j ≡ fits_ends nodes (before prev ls i) (get_or ls i none)) → first_failing fits k (length ls) ≡ loose nodes prev k ls
unfolding loose
loose_is nodes fits prev k [] each = refl
loose_is nodes fits prev k (l ∷ ls) each =
    turn (fits k) (fits_ends nodes prev l) _ _ k (each 0 k (omega arith) (omega arith))
    (loose_is nodes fits l.tail (suc k) ls (λ i j e lt. each (suc i) j (omega arith) (omega arith) ∙ ap (λ p. fits_ends nodes p (get_or ls i none)) (before_next prev l ls i)))

before_is : (ls : List Lane) (i : ℕ) → i < length ls → tail_before (map tail_of ls) i ≡ before 0 ls i
before_is ls zero lt = refl
before_is ls (suc i) lt = get_or-map tail_of ls i none 0 (omega arith)

-- the tests of one lane
module _ (ls : List Lane) (i : ℕ) (lt : i < length ls) where
  tail_is : get_or (map tail_of ls) i 0 ≡ (get_or ls i none).tail
  tail_is = get_or-map tail_of ls i none 0 lt

  head_is : get_or (map head_of ls) i 0 ≡ (get_or ls i none).head
  head_is = get_or-map head_of ls i none 0 lt

  cost_is : get_or (map cost_of ls) i 0 ≡ (get_or ls i none).cost
  cost_is = get_or-map cost_of ls i none 0 lt

  ends_is : (nodes : ℕ) → ends_fit nodes (map tail_of ls) (map head_of ls) i ≡ fits_ends nodes (before 0 ls i) (get_or ls i none)
  ends_is nodes = (λ x. nat_lt (tail_is x) nodes && (nat_lt (head_is x) nodes && nat_le (before_is ls i lt x) (tail_is x)))

  small_is : cost_fits (map cost_of ls) i ≡ fits_cost (get_or ls i none)
  small_is = ap (λ c. nat_le c 1000000) cost_is

  table_is : (m : Mark) → table_fits (map tail_of ls) (map head_of ls) (map cost_of ls) m.to m.from i ≡ fits_table m (get_or ls i none)
  table_is m =
      (λ x. nat_le (get_or m.to (tail_is x) 0) (joined (cost_is x) (get_or m.to (head_is x) 0))
      && nat_le (get_or m.from (head_is x) 0) (joined (get_or m.from (tail_is x) 0) (cost_is x)))

-- the tests of all lanes
module _ (ls : List Lane) where
  ends_all : (nodes : ℕ) → first_failing (ends_fit nodes (map tail_of ls) (map head_of ls)) 0 (length (map tail_of ls)) ≡ loose nodes 0 0 ls
  ends_all nodes =
      ap (first_failing (ends_fit nodes (map tail_of ls) (map head_of ls)) 0) (length-map ls tail_of)
      ∙ loose_is nodes (ends_fit nodes (map tail_of ls) (map head_of ls)) 0 0 ls (λ i j e lt. let s : j ≡ i = omega arith in ap (ends_fit nodes (map tail_of ls) (map head_of ls)) s ∙ ends_is ls i lt nodes)

  costs_all : first_failing (cost_fits (map cost_of ls)) 0 (length (map cost_of ls)) ≡ failing fits_cost 0 ls
  costs_all =
      ap (first_failing (cost_fits (map cost_of ls)) 0) (length-map ls cost_of)
      ∙ failing_is fits_cost (cost_fits (map cost_of ls)) none 0 ls (λ i j e lt. let s : j ≡ i = omega arith in ap (cost_fits (map cost_of ls)) s ∙ small_is ls i lt)

  table_all : (m : Mark) → first_failing (table_fits (map tail_of ls) (map head_of ls) (map cost_of ls) m.to m.from) 0 (length (map tail_of ls)) ≡ failing (fits_table m) 0 ls
  table_all m =
      ap (first_failing (table_fits (map tail_of ls) (map head_of ls) (map cost_of ls) m.to m.from) 0) (length-map ls tail_of)
      ∙ failing_is (fits_table m) (table_fits (map tail_of ls) (map head_of ls) (map cost_of ls) m.to m.from) none 0 ls
      (λ i j e lt. let s : j ≡ i = omega arith in ap (table_fits (map tail_of ls) (map head_of ls) (map cost_of ls) m.to m.from) s ∙ table_is ls i lt m)

-- a fault as the definition tells it, in a file with n lanes
abbrev pub told_of : ℕ → Option PlantFault → Option Fault
told_of n None = None
told_of n (Some f) = Some (told (Plant f (line_of f n)))

first_below : (fits : ℕ → Bool) (k n i : ℕ) → first_failing fits k n ≡ Some i → i < k + n
first_below fits k zero i e = absurd (let z : ◌≡◌ {A = ℕ} 0 1 = cc in omega arith)
first_below fits k (suc n) i e = by (first_below fits (suc k) n i) (fits k) e
  where
    by : (first_failing fits (suc k) n ≡ Some i → i < suc k + n) → (b : Bool) → cond b (first_failing fits (suc k) n) (Some k) ≡ Some i → i < k + suc n
    by ih true e = let r = ih e in omega arith
    by ih false e = let q : k ≡ i = cc in omega arith

later_is : (a b : ℕ) → a + b ≤ 100000 → later a b ≡ a + b
later_is a b h = omega arith

-- the line of a lane that was found
lane_line : (fits : ℕ → Bool) (all n : ℕ) → all ≡ n → n ≤ 16384 → (k : ℕ) → first_failing fits 0 all ≡ Some k → later k 2 ≡ 2 + k
lane_line fits all n q long k e =
    let b = first_below fits 0 all k e in
    let l = later_is k 2 (omega arith) in
    omega arith

abbrev placed : ℕ → ℕ → ℕ → ℕ → Option Fault
placed number first second line = Some (record { number = number; first = first; second = second; at = line })

ends_told : (n : ℕ) (o : Option ℕ) (next : Option PlantFault) (more : Option Fault) → ((k : ℕ) → o ≡ Some k → later k 2 ≡ 2 + k) → told_of n next ≡ more → told_of n (or_else (λ k. Ends k) o next) ≡ at_lane 3 o more
ends_told n None next more small e = e
ends_told n (Some k) next more small e = ap (placed 3 k 0) (small k refl)

costs_told : (n : ℕ) (o : Option ℕ) (next : Option PlantFault) (more : Option Fault) → ((k : ℕ) → o ≡ Some k → later k 2 ≡ 2 + k) → told_of n next ≡ more → told_of n (or_else (λ k. Cost k) o next) ≡ at_lane 4 o more
costs_told n None next more small e = e
costs_told n (Some k) next more small e = ap (placed 4 k 0) (small k refl)

mark_told : (n m line : ℕ) (o : Option ℕ) (next : Option PlantFault) (more : Option Fault) → later (later m n) 2 ≡ line → told_of n next ≡ more → told_of n (or_else (λ k. Table m k) o next) ≡ or_mark m line o more
mark_told n m line None next more small e = e
mark_told n m line (Some k) next more small e = ap (placed 6 m k) small

marks_told : (ls : List Lane) (n m line : ℕ) (ms : List Mark) → line ≡ m + n + 2 → m + length ms ≤ 16 → n ≤ 16384 → told_of n (marks_fault (map tail_of ls) (map head_of ls) (map cost_of ls) m ms) ≡ contradicted ls m line ms
unfolding contradicted
marks_told ls n m line [] at few long = refl
marks_told ls n m line (k ∷ ms) at few long =
    let a : later m n ≡ m + n = later_is m n (omega arith) in
    let b : later (later m n) 2 ≡ line = ap (λ x. later x 2) a ∙ (later_is (m + n) 2 (omega arith) ∙ sym at) in
    mark_told n m line _ _ _ b (marks_told ls n (suc m) (suc line) ms (omega arith) (omega arith) long)
    ∙ ap (λ o. or_mark m line o (contradicted ls (suc m) (suc line) ms)) (table_all ls k)

-- the three tests
pub plain_told : (p : Plain) → length p.lanes ≤ 16384 → length p.marks ≤ 16 → told_of (length p.lanes) (columns_fault p.nodes (tails p) (heads p) (costs p) p.marks) ≡ at_lane 3 (loose p.nodes 0 0 p.lanes) (at_lane 4 (failing fits_cost 0 p.lanes) (contradicted p.lanes 0 (2 + length p.lanes) p.marks))
plain_told p long few =
    let n = length p.lanes in
    let ts = length-map p.lanes tail_of in
    let cs = length-map p.lanes cost_of in
    ends_told n _ _ _ (lane_line _ _ n ts long)
    (costs_told n _ _ _ (lane_line _ _ n cs long) (marks_told p.lanes n 0 (2 + n) p.marks (omega arith) (omega arith) long)
    ∙ ap (λ o. at_lane 4 o (contradicted p.lanes 0 (2 + n) p.marks)) (costs_all p.lanes))
    ∙ ap (λ o. at_lane 3 o (at_lane 4 (failing fits_cost 0 p.lanes) (contradicted p.lanes 0 (2 + n) p.marks))) (ends_all p.lanes p.nodes)
