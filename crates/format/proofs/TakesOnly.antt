-- Tokens that are taken for a line of the file are those of the writer's line.
use Rattle.std.proofs.Common.{◌≡◌, ℕ, zero, suc, ◌≤◌, Bool, true, false, cond, eqb, List, [], ◌∷◌, Some, decimal, refl, ap, subst, subst₂, arith}
use Rattle.std.specs.List.{AllByRecursion}
use Rattle.std.proofs.lemmas.Bool.{eqb-true, ne_eqb, and_parts}
use Rattle.format.specs.Plain.{Lane, Mark, beyond, Table}
use Rattle.format.specs.Form.{letters, digits, Token, opened, closed, hyphen, run}
use Rattle.format.specs.Items.{reads, Took, took, other, then, opens, closes, same, says, number, value, many, values, all, triple, table, mark_form, plant_form, lane_form, plant_word, lane_word, Counts, mark_word, to_word, from_word}
use Rattle.format.proofs.Numbers.{number_only}
use Rattle.format.proofs.Spelled.{Good}
use Rattle.format.proofs.Sounds.{Sound}
use Rattle.format.proofs.Lines.{triple-tokens, value_token, values-tokens, table-tokens, mark-tokens}

-- a token as the scan gives it, with a sound number
abbrev pub Fair : Token → Type 0
Fair k = Good k × Sound k

-- the two steps of what was taken
record Steps {A B : Type 0} (x : Took A) (f : A → List Token → Took B) (b : B) (r : List Token) : Type 0 where
  mid : A
  left : List Token
  was : x ≡ took mid left
  goes : f mid left ≡ took b r

then_only : {A B : Type 0} (x : Took A) (f : A → List Token → Took B) (b : B) (r : List Token) → then x f ≡ took b r → Steps x f b r
then_only (took a ts) f b r e = record { mid = a; left = ts; was = refl; goes = e }
then_only other f b r e = absurd (let z : ◌≡◌ {A = ℕ} 0 1 = cc in omega arith)

opens_only : (ts : List Token) (u : Unit {0}) (r : List Token) → opens ts ≡ took u r → ts ≡ opened ∷ r
opens_only [] u r e = cc
opens_only (opened ∷ ts) u r e = cc
opens_only (closed ∷ ts) u r e = cc
opens_only (hyphen ∷ ts) u r e = cc
opens_only (run k w ∷ ts) u r e = cc

closes_only : (ts : List Token) (u : Unit {0}) (r : List Token) → closes ts ≡ took u r → ts ≡ closed ∷ r
closes_only [] u r e = cc
closes_only (opened ∷ ts) u r e = cc
closes_only (closed ∷ ts) u r e = cc
closes_only (hyphen ∷ ts) u r e = cc
closes_only (run k w ∷ ts) u r e = cc

same_only : (w v : List ℕ) → same w v ≡ true → w ≡ v
same_only [] [] e = refl
same_only [] (d ∷ v) e = cc
same_only (c ∷ w) [] e = cc
same_only (c ∷ w) (d ∷ v) e =
    let p = and_parts (eqb c d) (same w v) e in
    let q = eqb-true c d p.0 in let r = same_only w v p.1 in cc

says_only : (v : List ℕ) (ts : List Token) (u : Unit {0}) (r : List Token) → says v ts ≡ took u r → ts ≡ run letters v ∷ r
says_only v [] u r e = cc
says_only v (opened ∷ ts) u r e = cc
says_only v (closed ∷ ts) u r e = cc
says_only v (hyphen ∷ ts) u r e = cc
says_only v (run digits w ∷ ts) u r e = cc
says_only v (run letters w ∷ ts) u r e = by (same w v) refl e
  where
    by : (x : Bool) → same w v ≡ x → cond x (took tt ts) other ≡ took u r → run letters w ∷ ts ≡ run letters v ∷ r
    by true q e = let p = same_only w v q in cc
    by false q e = cc

record IsNumber (ts : List Token) (n : ℕ) (r : List Token) : Type 0 where
  spelt : ts ≡ run digits (decimal n) ∷ r
  small : n ≤ 4294967294
  fair : AllByRecursion Fair r

number_took : (ts : List Token) (n : ℕ) (r : List Token) → AllByRecursion Fair ts → number ts ≡ took n r → IsNumber ts n r
number_took [] n r h e = absurd (let z : ◌≡◌ {A = ℕ} 0 1 = cc in omega arith)
number_took (opened ∷ ts) n r h e = absurd (let z : ◌≡◌ {A = ℕ} 0 1 = cc in omega arith)
number_took (closed ∷ ts) n r h e = absurd (let z : ◌≡◌ {A = ℕ} 0 1 = cc in omega arith)
number_took (hyphen ∷ ts) n r h e = absurd (let z : ◌≡◌ {A = ℕ} 0 1 = cc in omega arith)
number_took (run letters w ∷ ts) n r h e = absurd (let z : ◌≡◌ {A = ℕ} 0 1 = cc in omega arith)
number_took (run digits w ∷ ts) n r h e =
    let o = number_only w h.0.0.0 h.0.0.1 h.0.1 in
    let p : reads 0 w ≡ n = cc in
    let q : ts ≡ r = cc in
    let d : decimal n ≡ w = subst (λ k. decimal k ≡ w) p o.0 in
    record { spelt = cc; small = subst (λ k. k ≤ 4294967294) p o.1; fair = subst (AllByRecursion Fair) q h.1 }

record IsValue (ts : List Token) (x : ℕ) (r : List Token) : Type 0 where
  spelt : ts ≡ value_token x ∷ r
  small : x ≤ beyond
  fair : AllByRecursion Fair r

value_took : (ts : List Token) (x : ℕ) (r : List Token) → AllByRecursion Fair ts → value ts ≡ took x r → IsValue ts x r
value_took [] x r h e = absurd (let z : ◌≡◌ {A = ℕ} 0 1 = cc in omega arith)
value_took (opened ∷ ts) x r h e = absurd (let z : ◌≡◌ {A = ℕ} 0 1 = cc in omega arith)
value_took (closed ∷ ts) x r h e = absurd (let z : ◌≡◌ {A = ℕ} 0 1 = cc in omega arith)
value_took (run letters w ∷ ts) x r h e = absurd (let z : ◌≡◌ {A = ℕ} 0 1 = cc in omega arith)
value_took (hyphen ∷ ts) x r h e =
    let p : beyond ≡ x = cc in
    let q : ts ≡ r = cc in
    record { spelt = subst (λ k. hyphen ∷ ts ≡ value_token k ∷ r) p (ap (λ u. hyphen ∷ u) q); small = omega arith; fair = subst (AllByRecursion Fair) q h.1 }
value_took (run digits w ∷ ts) x r h e =
    let n = number_took (run digits w ∷ ts) x r h e in
    let s = n.small in
    let t : value_token x ≡ run digits (decimal x) = rw (ne_eqb x beyond (λ z. omega arith)) in
    let d = n.spelt in
    record { spelt = cc; small = omega arith; fair = n.fair }

record AreValues (n : ℕ) (ts : List Token) (xs : List ℕ) (r : List Token) : Type 0 where
  spelt : ts ≡ values-tokens xs r
  table : Table n xs
  fair : AllByRecursion Fair r

values_took : (n : ℕ) (ts : List Token) (xs : List ℕ) (r : List Token) → AllByRecursion Fair ts → values n ts ≡ took xs r → AreValues n ts xs r
unfolding many
values_took zero ts xs r h e =
    let p : [] ≡ xs = cc in
    let q : ts ≡ r = cc in
    subst (λ ys. AreValues 0 ts ys r) p (record { spelt = q; table = (refl, tt); fair = subst (AllByRecursion Fair) q h })
values_took (suc n) ts xs r h e =
    let a = then_only (value ts) _ xs r e in
    let v = value_took ts a.mid a.left h a.was in
    let b = then_only (values n a.left) _ xs r a.goes in
    let i = values_took n a.left b.mid b.left v.fair b.was in
    let p : a.mid ∷ b.mid ≡ xs = let g = b.goes in cc in
    let q : b.left ≡ r = let g = b.goes in cc in
    let s = v.spelt in let t = i.spelt in
    let u : ts ≡ value_token a.mid ∷ values-tokens b.mid b.left = cc in
    subst₂ (λ ys k. AreValues (suc n) ts ys k) p q
    (record { spelt = u; table = (ap suc i.table.0, (v.small, i.table.1)); fair = i.fair })

record IsTable (w : List ℕ) (n : ℕ) (ts : List Token) (xs : List ℕ) (r : List Token) : Type 0 where
  spelt : ts ≡ table-tokens w xs r
  table : Table n xs
  fair : AllByRecursion Fair r

opens_fair : (ts : List Token) (u : Unit {0}) (r : List Token) → AllByRecursion Fair ts → opens ts ≡ took u r → (ts ≡ opened ∷ r) × AllByRecursion Fair r
opens_fair ts u r h e = let p = opens_only ts u r e in (p, (subst (AllByRecursion Fair) p h).1)

closes_fair : (ts : List Token) (u : Unit {0}) (r : List Token) → AllByRecursion Fair ts → closes ts ≡ took u r → (ts ≡ closed ∷ r) × AllByRecursion Fair r
closes_fair ts u r h e = let p = closes_only ts u r e in (p, (subst (AllByRecursion Fair) p h).1)

says_fair : (v : List ℕ) (ts : List Token) (u : Unit {0}) (r : List Token) → AllByRecursion Fair ts → says v ts ≡ took u r → (ts ≡ run letters v ∷ r) × AllByRecursion Fair r
says_fair v ts u r h e = let p = says_only v ts u r e in (p, (subst (AllByRecursion Fair) p h).1)

table_took : (w : List ℕ) (n : ℕ) (ts : List Token) (xs : List ℕ) (r : List Token) → AllByRecursion Fair ts → table w n ts ≡ took xs r → IsTable w n ts xs r
unfolding table
table_took w n ts xs r h e =
    let a = then_only (opens ts) _ xs r e in
    let o = opens_fair ts tt a.left h a.was in
    let b = then_only (says w a.left) _ xs r a.goes in
    let s = says_fair w a.left tt b.left o.1 b.was in
    let c = then_only (values n b.left) _ xs r b.goes in
    let v = values_took n b.left c.mid c.left s.1 c.was in
    let d = then_only (closes c.left) _ xs r c.goes in
    let z = closes_fair c.left tt d.left v.fair d.was in
    let p : c.mid ≡ xs = let g = d.goes in cc in
    let q : d.left ≡ r = let g = d.goes in cc in
    let t : ts ≡ opened ∷ run letters w ∷ values-tokens c.mid c.left = let o0 = o.0 in let s0 = s.0 in let v0 = v.spelt in cc in
    subst₂ (λ ys k. IsTable w n ts ys k) p q
    (record { spelt = subst (λ k. ts ≡ opened ∷ run letters w ∷ values-tokens c.mid k) z.0 t; table = v.table; fair = z.1 })

all_only : {A : Type 0} (x : Took A) (a : A) → all x ≡ Some a → x ≡ took a []
all_only (took b []) a e = cc
all_only (took b (t ∷ ts)) a e = cc
all_only other a e = cc

-- the tokens of a form with a word and three numbers, before others
abbrev triple_before : List ℕ → ℕ → ℕ → ℕ → List Token → List Token
triple_before w a b c ks = opened ∷ run letters w ∷ run digits (decimal a) ∷ run digits (decimal b) ∷ run digits (decimal c) ∷ closed ∷ ks

record IsTriple (w : List ℕ) (ts : List Token) (a : ℕ × ℕ × ℕ) (r : List Token) : Type 0 where
  spelt : ts ≡ triple_before w a.0 a.1 a.2 r
  small : (a.0 ≤ 4294967294) × (a.1 ≤ 4294967294) × (a.2 ≤ 4294967294)

triple_took : (w : List ℕ) (ts : List Token) (x : ℕ × ℕ × ℕ) (r : List Token) → AllByRecursion Fair ts → triple w ts ≡ took x r → IsTriple w ts x r
unfolding triple
triple_took w ts x end h e =
    let a = then_only (opens ts) _ x end e in
    let o = opens_fair ts tt a.left h a.was in
    let b = then_only (says w a.left) _ x end a.goes in
    let s = says_fair w a.left tt b.left o.1 b.was in
    let c = then_only (number b.left) _ x end b.goes in
    let l = number_took b.left c.mid c.left s.1 c.was in
    let d = then_only (number c.left) _ x end c.goes in
    let m = number_took c.left d.mid d.left l.fair d.was in
    let f = then_only (number d.left) _ x end d.goes in
    let n = number_took d.left f.mid f.left m.fair f.was in
    let g = then_only (closes f.left) (λ _ ks. took (c.mid, d.mid, f.mid) ks) x end f.goes in
    let z = closes_fair f.left tt g.left n.fair g.was in
    join a.left b.left c.left d.left f.left g.left c.mid d.mid f.mid
    o.0 s.0 l.spelt m.spelt n.spelt z.0 g.goes (l.small, m.small, n.small)
  where
    join : (u v k l m n : List Token) (a b c : ℕ) → ts ≡ opened ∷ u → u ≡ run letters w ∷ v → v ≡ run digits (decimal a) ∷ k → k ≡ run digits (decimal b) ∷ l → l ≡ run digits (decimal c) ∷ m → m ≡ closed ∷ n → took (a, b, c) n ≡ took x end → (a ≤ 4294967294) × (b ≤ 4294967294) × (c ≤ 4294967294) → IsTriple w ts x end
    join u v k l m n a b c o s p q r z e small =
        let t : ts ≡ triple_before w a b c n = cc in
        let y : ◌≡◌ {A = ℕ × ℕ × ℕ} (a, b, c) x = cc in
        let k : n ≡ end = cc in
        subst₂ (IsTriple w ts) y k (record { spelt = t; small = small })

pub record IsPlant (ts : List Token) (n : Counts) : Type 0 where
  pub spelt : ts ≡ triple-tokens plant_word n.nodes n.lanes n.marks
  pub small : (n.nodes ≤ 4294967294) × (n.lanes ≤ 4294967294) × (n.marks ≤ 4294967294)

pub plant_only : (ts : List Token) (n : Counts) → AllByRecursion Fair ts → all (plant_form ts) ≡ Some n → IsPlant ts n
unfolding plant_form
plant_only ts n h e =
    let a = then_only (triple plant_word ts) _ n [] (all_only (plant_form ts) n e) in
    let t = triple_took plant_word ts a.mid a.left h a.was in
    join a.mid a.left t.spelt t.small a.goes
  where
    join : (r : ℕ × ℕ × ℕ) (k : List Token) → ts ≡ triple_before plant_word r.0 r.1 r.2 k → (r.0 ≤ 4294967294) × (r.1 ≤ 4294967294) × (r.2 ≤ 4294967294) → took (record { nodes = r.0; lanes = r.1; marks = r.2 }) k ≡ took n [] → IsPlant ts n
    join r k p small e =
        let y : ◌≡◌ {A = Counts} (record { nodes = r.0; lanes = r.1; marks = r.2 }) n = cc in
        let q : k ≡ [] = cc in
        subst (IsPlant ts) y (record { spelt = subst (λ k. ts ≡ triple_before plant_word r.0 r.1 r.2 k) q p; small = small })

pub record IsLane (ts : List Token) (l : Lane) : Type 0 where
  pub spelt : ts ≡ triple-tokens lane_word l.tail l.head l.cost

pub lane_only : (ts : List Token) (l : Lane) → AllByRecursion Fair ts → all (lane_form ts) ≡ Some l → IsLane ts l
unfolding lane_form
lane_only ts l h e =
    let a = then_only (triple lane_word ts) _ l [] (all_only (lane_form ts) l e) in
    let t = triple_took lane_word ts a.mid a.left h a.was in
    join a.mid a.left t.spelt a.goes
  where
    join : (r : ℕ × ℕ × ℕ) (k : List Token) → ts ≡ triple_before lane_word r.0 r.1 r.2 k → took (record { tail = r.0; head = r.1; cost = r.2 }) k ≡ took l [] → IsLane ts l
    join r k p e =
        let y : ◌≡◌ {A = Lane} (record { tail = r.0; head = r.1; cost = r.2 }) l = cc in
        let q : k ≡ [] = cc in
        subst (IsLane ts) y (record { spelt = subst (λ k. ts ≡ triple_before lane_word r.0 r.1 r.2 k) q p })

pub record IsMark (n : ℕ) (ts : List Token) (m : Mark) : Type 0 where
  pub spelt : ts ≡ mark-tokens m
  pub tables : Table n m.to × Table n m.from

pub mark_only : (n : ℕ) (ts : List Token) (x : Mark) → AllByRecursion Fair ts → all (mark_form n ts) ≡ Some x → IsMark n ts x
unfolding mark_form
mark_only n ts x h e =
    let a = then_only (opens ts) _ x [] (all_only (mark_form n ts) x e) in
    let o = opens_fair ts tt a.left h a.was in
    let b = then_only (says mark_word a.left) _ x [] a.goes in
    let s = says_fair mark_word a.left tt b.left o.1 b.was in
    let c = then_only (table to_word n b.left) _ x [] b.goes in
    let l = table_took to_word n b.left c.mid c.left s.1 c.was in
    let d = then_only (table from_word n c.left) _ x [] c.goes in
    let m = table_took from_word n c.left d.mid d.left l.fair d.was in
    let g = then_only (closes d.left) _ x [] d.goes in
    let z = closes_fair d.left tt g.left m.fair g.was in
    let p : ◌≡◌ {A = Mark} (record { to = c.mid; from = d.mid }) x = let k = g.goes in cc in
    let t : ts ≡ opened ∷ run letters mark_word ∷ table-tokens to_word c.mid c.left = let o0 = o.0 in let s0 = s.0 in let l0 = l.spelt in cc in
    let q : d.left ≡ closed ∷ [] = let k = g.goes in let z0 = z.0 in cc in
    let u : c.left ≡ table-tokens from_word d.mid (closed ∷ []) = subst (λ k. c.left ≡ table-tokens from_word d.mid k) q m.spelt in
    subst (λ y. IsMark n ts y) p
    (record { spelt = subst (λ k. ts ≡ opened ∷ run letters mark_word ∷ table-tokens to_word c.mid k) u t; tables = (l.table, m.table) })
