-- What the reader refuses and accepts.
use Rattle.std.proofs.Common.{◌≡◌, ℕ, ◌*◌, ◌≤◌, Bool, true, false, cond, leb, nat_lt, List, [], ◌++◌, map, length, drop, Some, None, Ok, Err, Option, Result, sym, refl, ap, ◌∙◌, subst, subst₂, arith}
use Rattle.std.proofs.lemmas.List.{length-map}
use Rattle.std.proofs.lemmas.Bool.{and_parts, leb-true, ltb-true}
use Rattle.plants.specs.Columns.{Columns}
use Rattle.plants.specs.Faults.{counts_fit}
use Rattle.plants.specs.declared.fault.PlantFault.{PlantFault}
use Rattle.plants.specs.declared.fault.PlantFault.TheVariants.{Counts as OfCounts}
use Rattle.format.specs.declared.counts.Counts.{Counts}
use Rattle.format.specs.declared.counts.Space.{Space}
use Rattle.format.specs.declared.marks.Mark.{Mark as MarkPlace}
use Rattle.format.specs.Lanes.{LaneLists}
use Rattle.format.specs.declared.plant_lines.PlantLines.{PlantLines}
use Rattle.format.specs.declared.fault.Placed.{Placed}
use Rattle.format.specs.declared.fault.ReadFault.{ReadFault}
use Rattle.format.specs.declared.fault.ReadFault.TheVariants.{Short, Plant}
use Rattle.format.specs.Plain.{Lane, Mark, Plain, tails, heads, costs}
use Rattle.format.specs.Checks.{Room, has_room, has_counts, tested}
use Rattle.format.specs.Faults.{line_of, told, with_lanes, read_fault}
use Rattle.format.specs.Judged.{columns_fault}
use Rattle.format.specs.Read.{read}
use Rattle.format.specs.Reader.{room_of, Tested, Roomy, Refuses, Written, TablesWritten}
use Rattle.format.specs.Reads.{Sized, Pushed, MarksAt, MarksKept}
use Rattle.format.specs.Space.{room_for, space_of, Spacious}
use Rattle.format.specs.Turns.{Fault, got, lost, lines}
use Rattle.format.proofs.Agreed.{told_of, plain_told}
use Rattle.format.proofs.Judged.{counts_without}

-- a line's fault is the reader's
pub read_lost : (room : Room) (t : List ℕ) (e : Fault) → lines t ≡ lost e → read room t ≡ lost e
unfolding read
read_lost room t e q = rw q

fails : (b : Bool) (x y : Option Fault) → b ≡ false → elim b as (λ _. Option Fault) [ true ↦ x | false ↦ y ] ≡ y
fails true x y e = absurd (let z : ◌≡◌ {A = ℕ} 0 1 = cc in omega arith)
fails false x y e = refl

holds : (b : Bool) (x y : Option Fault) → b ≡ true → elim b as (λ _. Option Fault) [ true ↦ x | false ↦ y ] ≡ x
holds true x y e = refl
holds false x y e = absurd (let z : ◌≡◌ {A = ℕ} 0 1 = cc in omega arith)

tested_counts : (room : Room) (p : Plain) → has_counts p ≡ false → tested room p ≡ Some (record { number = 1; first = 0; second = 0; at = 1 })
unfolding tested
tested_counts room p e = fails (has_counts p) _ _ e

tested_short : (room : Room) (p : Plain) → has_counts p ≡ true → has_room room p ≡ false → tested room p ≡ Some (record { number = 8; first = 0; second = 0; at = 0 })
unfolding tested
tested_short room p e h = holds (has_counts p) _ _ e ∙ fails (has_room room p) _ _ h

pub read_counts : (room : Room) (t rest : List ℕ) (p : Plain) → lines t ≡ got p rest → has_counts p ≡ false → read room t ≡ lost (record { number = 1; first = 0; second = 0; at = 1 })
unfolding read
read_counts room t rest p q e = rw (q, tested_counts room p e)

pub read_short : (room : Room) (t rest : List ℕ) (p : Plain) → lines t ≡ got p rest → has_counts p ≡ true → has_room room p ≡ false → read room t ≡ lost (record { number = 8; first = 0; second = 0; at = 0 })
unfolding read
read_short room t rest p q e h = rw (q, tested_short room p e h)

-- the counts that the code tests are the plant's
pub sized_counts : (p : Plain) (c : Counts) → Sized p c → has_counts p ≡ counts_fit c.nodes c.lanes c.landmarks
sized_counts p c s = rw (s.nodes, s.lanes, s.marks)

pub sized_room : (p : Plain) (c limits : Counts) (lists : Columns) → Sized p c → has_room (room_of limits lists) p ≡ room_for c limits (space_of lists)
sized_room p c limits lists s = rw (s.nodes, s.lanes, s.marks)

-- what a test's answer was before it was placed
pub placed_fault : (n : ℕ) (r : Result (Unit {0}) PlantFault) (x : Placed) → Err x ≡ with_lanes n r → (r ≡ Err x.fault) × (x.lanes ≡ n)
placed_fault n (Ok u) x e = absurd (let z : ◌≡◌ {A = ℕ} 0 1 = cc in omega arith)
placed_fault n (Err f) x e = (ap Err (ap (fault_of f) (sym e)), ap (lanes_of n) e)
  where
    fault_of : PlantFault → Result (Unit {0}) Placed → PlantFault
    fault_of g (Ok u) = g
    fault_of g (Err y) = y.fault

    lanes_of : ℕ → Result (Unit {0}) Placed → ℕ
    lanes_of m (Ok u) = m
    lanes_of m (Err y) = y.lanes

pub placed_none : (n : ℕ) (r : Result (Unit {0}) PlantFault) (u : Unit {0}) → Ok u ≡ with_lanes n r → r ≡ Ok tt
placed_none n (Ok v) u e = refl
placed_none n (Err f) u e = absurd (let z : ◌≡◌ {A = ℕ} 0 1 = cc in omega arith)

pub refuses_counts : (room : Room) (t rest : List ℕ) (p : Plain) (x : Placed) → lines t ≡ got p rest → has_counts p ≡ false → x.fault ≡ OfCounts → Refuses room t (read_fault x)
refuses_counts room t rest p x q e f =
    let F : PlantFault → Type 0 = λ g. Refuses room t (Plant g (line_of g x.lanes)) in
    subst F (sym f) (read_counts room t rest p q e)

pub refuses_short : (room : Room) (t rest : List ℕ) (p : Plain) (f : ReadFault) → lines t ≡ got p rest → has_counts p ≡ true → has_room room p ≡ false → f ≡ Short → Refuses room t f
refuses_short room t rest p f q e h s = subst (Refuses room t) (sym s) (read_short room t rest p q e h)

-- the columns that were kept while the lines were read

pub few_lanes : (nodes lanes landmarks : ℕ) → counts_fit nodes lanes landmarks ≡ true → lanes ≤ 16384
few_lanes nodes lanes landmarks e =
    let a = and_parts (leb 1 nodes) _ e in
    let b = and_parts (leb nodes 4096) _ a.1 in
    let c = and_parts (leb lanes 16384) _ b.1 in
    leb-true lanes 16384 c.0

pub few_marks : (nodes lanes landmarks : ℕ) → counts_fit nodes lanes landmarks ≡ true → landmarks ≤ 16
few_marks nodes lanes landmarks e =
    let a = and_parts (leb 1 nodes) _ e in
    let b = and_parts (leb nodes 4096) _ a.1 in
    let c = and_parts (leb lanes 16384) _ b.1 in
    leb-true landmarks 16 c.1

-- what the tests of lanes and tables say of a plant for which there is room

tested_columns : (room : Room) (p : Plain) → has_counts p ≡ true → has_room room p ≡ true → tested room p ≡ told_of (length p.lanes) (columns_fault p.nodes (tails p) (heads p) (costs p) p.marks)
unfolding tested
tested_columns room p e h =
    holds (has_counts p) _ _ e
    ∙ (holds (has_room room p) _ _ h ∙ sym (plain_told p (few_lanes p.nodes (length p.lanes) (length p.marks) e) (few_marks p.nodes (length p.lanes) (length p.marks) e)))

pub refuses_plant : (room : Room) (t rest : List ℕ) (p : Plain) (x : Placed) → Roomy room t rest p → x.lanes ≡ length p.lanes → Some x.fault ≡ columns_fault p.nodes (tails p) (heads p) (costs p) p.marks → Refuses room t (read_fault x)
unfolding read
refuses_plant room t rest p x r l e =
    let s : tested room p ≡ Some (told (Plant x.fault (line_of x.fault x.lanes))) =
    tested_columns room p r.counted r.has ∙ (ap (told_of (length p.lanes)) (sym e) ∙ ap (λ n. Some (told (Plant x.fault (line_of x.fault n)))) (sym l)) in
    rw (r.read_as, s)

pub accepts_plant : (room : Room) (t rest : List ℕ) (p : Plain) → Roomy room t rest p → None ≡ columns_fault p.nodes (tails p) (heads p) (costs p) p.marks → read room t ≡ got p rest
unfolding read
accepts_plant room t rest p r e =
    let s : tested room p ≡ None = tested_columns room p r.counted r.has ∙ ap (told_of (length p.lanes)) (sym e) in
    rw (r.read_as, s)

-- a plant that was tested is one for which there is room
pub roomy_for : (limits : Counts) (lists : Columns) (s : Space) (t : List ℕ) (lanes lanes' : LaneLists) (marks marks' : List MarkPlace) (l : PlantLines) (k : Tested limits s t lanes lanes' marks marks' l) → s ≡ space_of lists → Roomy (room_of limits lists) t (drop l.end t) k.plant
roomy_for limits lists s t lanes lanes' marks marks' l k q = record {
  read_as = k.read_as;
  counted = sized_counts k.plant l.counts k.sized ∙ k.fit;
  has = sized_room k.plant l.counts limits lists k.sized ∙ (ap (λ s. room_for l.counts limits s) (sym q) ∙ k.room);
}

pub few_nodes : (nodes lanes landmarks : ℕ) → counts_fit nodes lanes landmarks ≡ true → nodes ≤ 4096
few_nodes nodes lanes landmarks e =
    let a = and_parts (leb 1 nodes) _ e in
    let b = and_parts (leb nodes 4096) _ a.1 in
    leb-true nodes 4096 b.0

-- lists that were empty before the lines were read

pub kept_marks : (n n' k : ℕ) (ms : List Mark) (before after : List MarkPlace) → n ≡ n' → before ≡ [] → length ms ≡ k → k ≤ 16 → MarksKept n ms before after → MarksAt n' ms after
kept_marks n n' k ms before after e b l h m =
    let z = ap length b in
    let a = m (omega arith) in
    let same : after ≡ a.0 = a.1 ∙ ap (λ zs. zs ++ a.0) b in
    subst₂ (λ i xs. MarksAt i ms xs) e (sym same) a.2

pub kept_column : (f : Lane → ℕ) (ls : List Lane) (before after : List ℕ) (n : ℕ) → before ≡ [] → length ls ≡ n → n ≤ 16384 → Pushed 16384 (map f ls) before after → after ≡ map f ls
kept_column f ls before after n b e h p =
    let l = length-map ls f in
    let z = ap length b in
    p (omega arith) ∙ ap (λ zs. zs ++ map f ls) b

pub column_long : (xs : List ℕ) (f : Lane → ℕ) (ls : List Lane) (n : ℕ) → length ls ≡ n → xs ≡ map f ls → length xs ≡ n
column_long xs f ls n e q = ap length q ∙ (length-map ls f ∙ e)

-- the columns and landmarks that were kept, as they are tested and written
pub record Columned (p : Plain) (n : Counts) (ts hs cs : List ℕ) (xs : List MarkPlace) : Type 0 where
  pub tails_are : ts ≡ tails p
  pub heads_are : hs ≡ heads p
  pub costs_are : cs ≡ costs p
  pub marks_are : MarksAt n.nodes p.marks xs

pub columned : (limits : Counts) (s : Space) (t : List ℕ) (lanes lanes' : LaneLists) (marks marks' : List MarkPlace) (l : PlantLines) (k : Tested limits s t lanes lanes' marks marks' l) (ts hs cs : List ℕ) (xs : List MarkPlace) → (lanes.tails.items ≡ []) × (lanes.heads.items ≡ []) × (lanes.costs.items ≡ []) → marks ≡ [] → (ts ≡ lanes'.tails.items) × (hs ≡ lanes'.heads.items) × (cs ≡ lanes'.costs.items) → xs ≡ marks' → Columned k.plant l.counts ts hs cs xs
columned limits s t lanes lanes' marks marks' l k ts hs cs xs empty none are at =
    let p = k.plant in
    let n = l.counts in
    let few = few_lanes n.nodes n.lanes n.landmarks k.fit in
    let some = few_marks n.nodes n.lanes n.landmarks k.fit in
    record {
      tails_are = are.0 ∙ kept_column (λ (l : Lane). l.tail) p.lanes _ _ n.lanes empty.0 k.sized.lanes few k.lanes_kept.tails_kept;
      heads_are = are.1 ∙ kept_column (λ (l : Lane). l.head) p.lanes _ _ n.lanes empty.1 k.sized.lanes few k.lanes_kept.heads_kept;
      costs_are = are.2 ∙ kept_column (λ (l : Lane). l.cost) p.lanes _ _ n.lanes empty.2 k.sized.lanes few k.lanes_kept.costs_kept;
      marks_are = subst (MarksAt n.nodes p.marks) (sym at) (kept_marks p.nodes n.nodes n.landmarks p.marks _ _ k.sized.nodes none k.sized.marks some k.marks_kept);
    }

-- the fault that they have is the plant's
pub fault_for : (p : Plain) (n : Counts) (ts hs cs : List ℕ) (xs : List MarkPlace) (o : Option PlantFault) → Columned p n ts hs cs xs → Sized p n → counts_fit n.nodes n.lanes n.landmarks ≡ true → ((ms : List Mark) → MarksAt n.nodes ms xs → counts_fit n.nodes (length ts) 0 ≡ true → length hs ≡ length ts → o ≡ columns_fault n.nodes ts hs cs ms) → o ≡ columns_fault p.nodes (tails p) (heads p) (costs p) p.marks
fault_for p n ts hs cs xs o k z fit is =
    let long = column_long ts (λ (l : Lane). l.tail) p.lanes n.lanes z.lanes k.tails_are in
    let same = column_long hs (λ (l : Lane). l.head) p.lanes n.lanes z.lanes k.heads_are in
    is p.marks k.marks_are (counts_without n.nodes n.lanes n.landmarks (length ts) fit long) (same ∙ sym long)
    ∙ (λ i. columns_fault (sym z.nodes i) (k.tails_are i) (k.heads_are i) (k.costs_are i) p.marks)

-- there is room for what was read
pub spacious_for : (c limits : Counts) (s s' : Space) (m : ℕ) (ts hs cs : List ℕ) → room_for c limits s ≡ true → s ≡ s' → m ≡ c.landmarks → length ts ≡ c.lanes → length hs ≡ c.lanes → length cs ≡ c.lanes → Spacious c.nodes m ts hs cs s'
spacious_for c limits s s' m ts hs cs e q k a b d =
    let r = and_parts (leb c.nodes limits.nodes) _ e in
    let t = and_parts (leb c.lanes limits.lanes) _ r.1 in
    let u = and_parts (leb c.landmarks limits.landmarks) _ t.1 in
    let v = and_parts (leb c.lanes s.lanes) _ u.1 in
    let w = and_parts (nat_lt c.nodes s.firsts) _ v.1 in
    let lanes = leb-true c.lanes s.lanes v.0 in
    let firsts = ltb-true c.nodes s.firsts w.0 in
    let tables : m * c.nodes ≤ s.tables = subst (λ x. x * c.nodes ≤ s.tables) (sym k) (leb-true (c.landmarks * c.nodes) s.tables w.1) in
    subst (Spacious c.nodes m ts hs cs) q (record { for_tails = omega arith; for_heads = omega arith; for_costs = omega arith; for_firsts = omega arith; for_tables = tables })

pub written_for : (n n' : ℕ) (ts ts' hs hs' cs cs' : List ℕ) (before after : Columns) → n ≡ n' → ts ≡ ts' → hs ≡ hs' → cs ≡ cs' → Written n ts hs cs before after → Written n' ts' hs' cs' before after
written_for n n' ts ts' hs hs' cs cs' before after e t h c w =
    let a = subst (λ x. Written x ts hs cs before after) e w in
    let b = subst (λ x. Written n' x hs cs before after) t a in
    let d = subst (λ x. Written n' ts' x cs before after) h b in
    subst (λ x. Written n' ts' hs' x before after) c d

pub tables_for : (n n' : ℕ) (ms : List Mark) (before after : Columns) → n ≡ n' → TablesWritten n ms before after → TablesWritten n' ms before after
tables_for n n' ms before after e w = subst (λ x. TablesWritten x ms before after) e w

-- what the test of the counts says, where it refuses and where it does not
pub counts_refused : (b : Bool) (f : PlantFault) → Some f ≡ cond b None (Some OfCounts) → (f ≡ OfCounts) × (b ≡ false)
counts_refused true f e = let z : ◌≡◌ {A = ℕ} 0 1 = cc in absurd (omega arith)
counts_refused false f e = (cc, refl)

pub counts_kept : (b : Bool) → None ≡ cond b None (Some OfCounts) → b ≡ true
counts_kept true e = refl
counts_kept false e = let z : ◌≡◌ {A = ℕ} 0 1 = cc in absurd (omega arith)
