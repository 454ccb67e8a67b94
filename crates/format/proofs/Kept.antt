-- Lines that are read one after another, and what is kept of them.
use Rattle.std.proofs.Common.{◌≡◌, ℕ, suc, ◌+◌, ◌-◌, ◌<◌, ◌≤◌, List, [], ◌∷◌, ◌++◌, map, length, drop, sym, refl, ap, ◌∙◌, subst, append_assoc, arith, length-append}
use Rattle.std.proofs.lemmas.List.{append-nil, map-append}
use Rattle.format.specs.declared.marks.Mark.{Mark as MarkPlace}
use Rattle.format.specs.Lanes.{LaneLists}
use Rattle.format.specs.Plain.{Lane, Mark}
use Rattle.format.specs.Form.{Token}
use Rattle.format.specs.Items.{Took, took, other, then, all}
use Rattle.format.specs.Turns.{Fault, Got, got, lost, on, or_14, tokens, form, forms}
use Rattle.format.specs.Reads.{Pushed, LanePushed, LanesKept, MarkAt, MarksAt, MarksKept}

-- what is taken, made into something else
abbrev pub made : {A B : Type 0} → (A → B) → (List Token → Took A) → List Token → Took B
made f g ts = then (g ts) (λ a us. took (f a) us)

pub made_lost : {A B : Type 0} (f : A → B) (g : List Token → Took A) (n : ℕ) (t : List ℕ) (e : Fault) → form g n t ≡ lost e → form (made f g) n t ≡ lost e
unfolding form
made_lost {A = A} {B = B} f g n t e q = by (tokens n t) q
  where
    inner : (x : Took A) (r : List ℕ) → or_14 n (all x) r ≡ lost e → or_14 n (all (then x (λ a us. took (f a) us))) r ≡ lost e
    inner (took a []) r q = absurd (let z : ◌≡◌ {A = ℕ} 0 1 = cc in omega arith)
    inner (took a (u ∷ us)) r q = cc
    inner other r q = cc

    by : (x : Got (List Token)) → on x (λ ts r. or_14 n (all (g ts)) r) ≡ lost e → on x (λ ts r. or_14 n (all (made f g ts)) r) ≡ lost e
    by (got ts r) q = inner (g ts) r q
    by (lost d) q = cc

pub made_got : {A B : Type 0} (f : A → B) (g : List Token → Took A) (n : ℕ) (t rest : List ℕ) (a : A) → form g n t ≡ got a rest → form (made f g) n t ≡ got (f a) rest
unfolding form
made_got {A = A} {B = B} f g n t rest a q = by (tokens n t) q
  where
    inner : (x : Took A) (r : List ℕ) → or_14 n (all x) r ≡ got a rest → or_14 n (all (then x (λ a us. took (f a) us))) r ≡ got (f a) rest
    inner (took b []) r q = let p : b ≡ a = cc in let s : r ≡ rest = cc in cc
    inner (took b (u ∷ us)) r q = absurd (let z : ◌≡◌ {A = ℕ} 0 1 = cc in omega arith)
    inner other r q = absurd (let z : ◌≡◌ {A = ℕ} 0 1 = cc in omega arith)

    by : (x : Got (List Token)) → on x (λ ts r. or_14 n (all (g ts)) r) ≡ got a rest → on x (λ ts r. or_14 n (all (made f g ts)) r) ≡ got (f a) rest
    by (got ts r) q = inner (g ts) r q
    by (lost d) q = absurd (let z : ◌≡◌ {A = ℕ} 0 1 = cc in omega arith)

-- so many lines of a kind: those read so far, and the rest of the definition

abbrev pub joined : {A : Type 0} → List A → Got (List A) → Got (List A)
joined xs g = on g (λ ys t. got (xs ++ ys) t)

pub record Reading {A : Type 0} (f : List Token → Took A) (src : List ℕ) (from at count first k : ℕ) : Type 0 where
  pub xs : List A
  pub long : length xs ≡ k
  pub is : forms f count first (drop from src) ≡ joined xs (forms f (count - k) (first + k) (drop at src))

pub read_none : {A : Type 0} (f : List Token → Took A) (t : List ℕ) (count first : ℕ) → forms f count first t ≡ joined [] (forms f (count - 0) (first + 0) t)
read_none {A = A} f t count first =
    let e : count ≡ count - 0 = omega arith in
    let d : first ≡ first + 0 = omega arith in
    start (forms f count first t) ∙ (ap (λ n. joined [] (forms f n first t)) e ∙ ap (λ n. joined [] (forms f (count - 0) n t)) d)
  where
    start : (g : Got (List A)) → g ≡ joined [] g
    start (got ys t) = refl
    start (lost e) = refl

pub read_lost : {A : Type 0} (f : List Token → Took A) (src : List ℕ) (from at count first k : ℕ) (e : Fault) → Reading f src from at count first k → k < count → form f (first + k) (drop at src) ≡ lost e → forms f count first (drop from src) ≡ lost e
unfolding forms
read_lost f src from at count first k e r h q =
    let p : count - k ≡ suc (count - k - 1) = omega arith in
    r.is ∙ (ap (λ n. joined r.xs (forms f n (first + k) (drop at src))) p ∙ rw q)

pub read_more : {A : Type 0} (f : List Token → Took A) (src : List ℕ) (from at e count first k : ℕ) (a : A) (r : Reading f src from at count first k) → k < count → form f (first + k) (drop at src) ≡ got a (drop e src) → forms f count first (drop from src) ≡ joined (r.xs ++ (a ∷ [])) (forms f (count - (k + 1)) (first + (k + 1)) (drop e src))
unfolding forms
read_more {A = A} f src from at e count first k a r h q =
    let p : count - k ≡ suc (count - (k + 1)) = omega arith in
    let d : suc (first + k) ≡ first + (k + 1) = omega arith in
    r.is
    ∙ (ap (λ n. joined r.xs (forms f n (first + k) (drop at src))) p
    ∙ (rw q (more r.xs (forms f (count - (k + 1)) (suc (first + k)) (drop e src))) ∙ ap (λ n. joined (r.xs ++ (a ∷ [])) (forms f (count - (k + 1)) n (drop e src))) d))
  where
    more : (xs : List A) (g : Got (List A)) → joined xs (on g (λ ys t. got (a ∷ ys) t)) ≡ joined (xs ++ (a ∷ [])) g
    more xs (got ys t) = ap (λ zs. got zs t) (sym (append_assoc xs (a ∷ []) ys))
    more xs (lost d) = refl

pub read_all : {A : Type 0} (f : List Token → Took A) (src : List ℕ) (from at count first k : ℕ) (r : Reading f src from at count first k) → count ≤ k → forms f count first (drop from src) ≡ got r.xs (drop at src)
unfolding forms
read_all f src from at count first k r h =
    let p : count - k ≡ 0 = omega arith in
    r.is ∙ (ap (λ n. joined r.xs (forms f n (first + k) (drop at src))) p ∙ ap (λ zs. got zs (drop at src)) (append-nil r.xs))

pub push_long : {A : Type 0} (xs : List A) (a : A) (k : ℕ) → length xs ≡ k → length (xs ++ (a ∷ [])) ≡ k + 1
push_long xs a k e = length-append xs (a ∷ []) ∙ ap (λ n. n + 1) e

-- a list that items are added to

pub pushed_none : {A : Type 0} (n : ℕ) (before : List A) → Pushed n [] before before
pushed_none n before h = sym (append-nil before)

pub pushed_more : {A : Type 0} (n : ℕ) (xs : List A) (x : A) (before now now' : List A) → Pushed n xs before now → (length now < n → now' ≡ now ++ x ∷ []) → Pushed n (xs ++ x ∷ []) before now'
pushed_more n xs x before now now' p q h =
    let l = length-append xs (x ∷ []) in
    let was = p (omega arith) in
    let long = ap length was ∙ length-append before xs in
    let room : length now < n = omega arith in
    q room ∙ (ap (λ zs. zs ++ x ∷ []) was ∙ append_assoc before xs (x ∷ []))

-- a column of the lanes
pub column_more : (f : Lane → ℕ) (n : ℕ) (ls : List Lane) (l : Lane) (before now now' : List ℕ) → Pushed n (map f ls) before now → (length now < n → now' ≡ now ++ f l ∷ []) → Pushed n (map f (ls ++ l ∷ [])) before now'
column_more f n ls l before now now' p q = subst (λ xs. Pushed n xs before now') (sym (map-append f ls (l ∷ []))) (pushed_more n (map f ls) (f l) before now now' p q)

pub lanes_none : (lists : LaneLists) → LanesKept [] lists lists
lanes_none lists = record { tails_kept = pushed_none 16384 lists.tails.items; heads_kept = pushed_none 16384 lists.heads.items; costs_kept = pushed_none 16384 lists.costs.items }

pub lanes_more : (ls : List Lane) (l : Lane) (before now now' : LaneLists) → LanesKept ls before now → LanePushed l.tail l.head l.cost now now' → LanesKept (ls ++ l ∷ []) before now'
lanes_more ls l before now now' k p = record {
  tails_kept = column_more (λ (l : Lane). l.tail) 16384 ls l before.tails.items now.tails.items now'.tails.items k.tails_kept p.0;
  heads_kept = column_more (λ (l : Lane). l.head) 16384 ls l before.heads.items now.heads.items now'.heads.items k.heads_kept p.1;
  costs_kept = column_more (λ (l : Lane). l.cost) 16384 ls l before.costs.items now.costs.items now'.costs.items k.costs_kept p.2;
}

-- the places of the landmarks

marks_push : (n : ℕ) (ms : List Mark) (xs : List MarkPlace) (m : Mark) (x : MarkPlace) → MarksAt n ms xs → MarkAt n m x → MarksAt n (ms ++ (m ∷ [])) (xs ++ (x ∷ []))
marks_push n [] [] m x h a = (a, tt)
marks_push n [] (y ∷ ys) m x h a = absurd h
marks_push n (l ∷ ms) [] m x h a = absurd h
marks_push n (l ∷ ms) (y ∷ ys) m x h a = (h.0, marks_push n ms ys m x h.1 a)

pub marks_length : (n : ℕ) (ms : List Mark) (xs : List MarkPlace) → MarksAt n ms xs → length ms ≡ length xs
marks_length n [] [] h = refl
marks_length n [] (x ∷ xs) h = absurd h
marks_length n (m ∷ ms) [] h = absurd h
marks_length n (m ∷ ms) (x ∷ xs) h = ap suc (marks_length n ms xs h.1)

pub marks_none : (n : ℕ) (before : List MarkPlace) → MarksKept n [] before before
marks_none n before h = ([], sym (append-nil before), tt)

pub marks_more : (n : ℕ) (ms : List Mark) (m : Mark) (x : MarkPlace) (before now now' : List MarkPlace) → MarkAt n m x → MarksKept n ms before now → (length now < 16 → now' ≡ now ++ x ∷ []) → MarksKept n (ms ++ (m ∷ [])) before now'
marks_more n ms m x before now now' a k q h =
    let l = length-append ms (m ∷ []) in
    let was = k (omega arith) in
    let same = marks_length n ms was.0 was.2 in
    let long = ap length was.1 ∙ length-append before was.0 in
    let room : length now < 16 = omega arith in
    (was.0 ++ x ∷ [], q room ∙ (ap (λ zs. zs ++ x ∷ []) was.1 ∙ append_assoc before was.0 (x ∷ [])), marks_push n ms was.0 m x was.2 a)
