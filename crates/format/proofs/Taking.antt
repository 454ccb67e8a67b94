-- What the code's takers say of the definition's.
use Rattle.std.proofs.Common.{◌≡◌, ℕ, Bool, true, false, List, [], ◌∷◌, Some, None, Option, Decides, refl, ap, ◌∙◌, arith, rules}
use Rattle.std.proofs.lemmas.Bool.{cond_both}
use Rattle.std.proofs.lemmas.Slice.Eq.{compares_Decides}
use Rattle.std.specs.Bool.{then_some}
use Rattle.format.specs.declared.cursor.Cursor.{Cursor}
use Rattle.format.specs.declared.marks.Mark.{Mark as MarkPlace}
use Rattle.format.specs.Plain.{Mark}
use Rattle.format.specs.Form.{Token, opened, closed, hyphen, run, letters, digits}
use Rattle.format.specs.Items.{Took, took, other, all, opens, says, same}
use Rattle.format.specs.Places.{TokensAt, Ahead, Passed, TookTo, TookPast, TookNumber, passed}
use Rattle.format.specs.Reads.{ValuesFrom, TookTable, MarkAt, MarkTaken}

same_decides : (xs ys : List ℕ) → Decides (same xs ys) (xs ≡ ys)
same_decides = compares_Decides same (search rules)

-- a token was passed exactly if it is the one that was wanted
pub passes : (c : Cursor) (ts : List Token) (k j : Token) (b : Bool) (r : Option (Unit {0})) → Ahead c.line.text.now c.at ts k → Decides b (k ≡ j) → r ≡ then_some b tt → Passed j c ts r
passes c ts k j true r a d e = rw e (let q = d.0 refl in record { us = a.us; is = a.is ∙ ap (λ x. x ∷ a.us) q; sounds = let s = a.sounds in cc; there = a.there })
passes c ts k j false r a d e = rw e (λ us p. let i = a.is in let q : k ≡ j = cc in let f = d.1 q in let z : ◌≡◌ {A = ℕ} 0 1 = cc in omega arith)

-- the brackets and words that the definition passes

pub passes_open : (c : Cursor) (ts : List Token) (r : Option (Unit {0})) → Passed opened c ts r → TookPast c (opens ts) r
passes_open c ts (Some u) a = rw a.is (tt, a.there)
passes_open c [] None n = tt
passes_open c (opened ∷ ts) None n = n ts refl
passes_open c (closed ∷ ts) None n = tt
passes_open c (hyphen ∷ ts) None n = tt
passes_open c (run k w ∷ ts) None n = tt

pub passes_word : (c : Cursor) (v : List ℕ) (ts : List Token) (r : Option (Unit {0})) → Passed (run letters v) c ts r → TookPast c (says v ts) r
passes_word c v ts (Some u) a = let e = (same_decides v v).1 refl in rw (a.is, e) (tt, a.there)
passes_word c v [] None n = tt
passes_word c v (opened ∷ ts) None n = tt
passes_word c v (closed ∷ ts) None n = tt
passes_word c v (hyphen ∷ ts) None n = tt
passes_word c v (run digits w ∷ ts) None n = tt
passes_word c v (run letters w ∷ ts) None n =
    cond_both (same w v) (took tt ts) other (λ t. TookPast c t None) (λ q. n ts (ap (λ x. run letters x ∷ ts) ((same_decides w v).0 q))) (λ _. tt)

-- something was taken
pub record TookAt {A X : Type 0} (R : A → X → Type 0) (c : Cursor) (t : Took A) (x : X) : Type 0 where
  pub a : A
  pub ts : List Token
  pub is : t ≡ took a ts
  pub fits : R a x
  pub there : TokensAt c.line.text.now c.at ts

pub took_some : {A X : Type 0} (R : A → X → Type 0) (c : Cursor) (t : Took A) (x : X) → TookTo R c t (Some x) → TookAt R c t x
took_some R c (took a ts) x h = record { a = a; ts = ts; is = refl; fits = h.0; there = h.1 }
took_some R c other x h = absurd h

pub took_none : {A X : Type 0} (R : A → X → Type 0) (c : Cursor) (t : Took A) → TookTo R c t None → t ≡ other
took_none R c (took a ts) h = absurd h
took_none R c other h = refl

-- a bracket or a word was passed
pub some_past : (c : Cursor) (t : Took (Unit {0})) (u : Unit {0}) → TookPast c t (Some u) → TookAt {X = Unit {0}} (λ _ _. Unit {0}) c t u
some_past c t u h = took_some _ c t u h

pub none_past : (c : Cursor) (t : Took (Unit {0})) → TookPast c t None → t ≡ other
none_past c t h = took_none _ c t h

-- a number was taken
pub record NumberAt (c : Cursor) (t : Took ℕ) (x : ℕ) : Type 0 where
  pub ts : List Token
  pub is : t ≡ took x ts
  pub there : TokensAt c.line.text.now c.at ts

pub some_number : (c : Cursor) (t : Took ℕ) (x : ℕ) → TookNumber c t (Some x) → NumberAt c t x
some_number c (took a ts) x h = record { ts = ts; is = ap (λ n. took n ts) h.0; there = h.1 }
some_number c other x h = absurd h

pub none_number : (c : Cursor) (t : Took ℕ) → TookNumber c t None → t ≡ other
none_number c t h = took_none _ c t h

-- tokens are left over, or none are
pub all_if : {A : Type 0} (a : A) (ts : List Token) (b : Bool) → Decides b (ts ≡ []) → all (took a ts) ≡ then_some b a
all_if a [] true d = refl
all_if a [] false d = let f = d.1 refl in let z : ◌≡◌ {A = ℕ} 0 1 = cc in absurd (omega arith)
all_if a (t ∷ ts) true d = let e = d.0 refl in let z : ◌≡◌ {A = ℕ} 0 1 = cc in absurd (omega arith)
all_if a (t ∷ ts) false d = refl

-- what was passed
pub record PassedBy {A : Type 0} (t : Took A) (ts : List Token) : Type 0 where
  pub a : A
  pub is : t ≡ took a ts

pub passed_by : {A : Type 0} (t : Took A) (ts : List Token) → passed t ≡ took tt ts → PassedBy t ts
passed_by (took a us) ts e = let q : us ≡ ts = cc in record { a = a; is = ap (took a) q }
passed_by other ts e = absurd (let z : ◌≡◌ {A = ℕ} 0 1 = cc in omega arith)

pub passed_none : {A : Type 0} (t : Took A) → passed t ≡ other → t ≡ other
passed_none (took a us) e = absurd (let z : ◌≡◌ {A = ℕ} 0 1 = cc in omega arith)
passed_none other e = refl

-- a table was taken
pub some_table : (n : ℕ) (c : Cursor) (t : Took (List ℕ)) (x : Cursor) → TookTable n c t (Some x) → TookAt (ValuesFrom n) c t x
some_table n c t x h = took_some _ c t x h

pub none_table : (n : ℕ) (c : Cursor) (t : Took (List ℕ)) → TookTable n c t None → t ≡ other
none_table n c t h = took_none _ c t h

-- a whole mark
pub mark_none : (n : ℕ) (o : Option Mark) → MarkTaken n o None → o ≡ None
mark_none n None h = refl
mark_none n (Some m) h = absurd h

pub mark_some : (n : ℕ) (o : Option Mark) (x : MarkPlace) → MarkTaken n o (Some x) → (m : Mark) × (o ≡ Some m) × MarkAt n m x
mark_some n None x h = absurd h
mark_some n (Some m) x h = (m, refl, h)

-- a mark of which nothing is left over
pub taken_if : (n : ℕ) (m : Mark) (x : MarkPlace) (ts : List Token) (b : Bool) (r : Option MarkPlace) → Decides b (ts ≡ []) → r ≡ then_some b x → MarkAt n m x → MarkTaken n (all (took m ts)) r
taken_if n m x [] true r d e a = rw e a
taken_if n m x [] false r d e a = let f = d.1 refl in let z : ◌≡◌ {A = ℕ} 0 1 = cc in absurd (omega arith)
taken_if n m x (t ∷ ts) true r d e a = let f = d.0 refl in let z : ◌≡◌ {A = ℕ} 0 1 = cc in absurd (omega arith)
taken_if n m x (t ∷ ts) false r d e a = rw e tt
