-- The values of a table, one after another.
use Rattle.std.proofs.Common.{◌≡◌, ℕ, zero, suc, ◌+◌, ◌-◌, ◌<◌, ◌≤◌, List, [], ◌∷◌, ◌++◌, length, get_or, take, drop, set, sym, refl, ap, ◌∙◌, subst, arith}
use Rattle.std.proofs.lemmas.List.{take_all, take_more, take_more_set, drop_more}
use Rattle.format.specs.Form.{Token}
use Rattle.format.specs.Items.{Took, took, other, then, value, many, values}
use Rattle.format.specs.Places.{TokensAt, ValuesAt, passed}

-- the first of some, and the others
pub record First {A : Type 0} (f : List Token → Took A) (m : ℕ) (ts us : List Token) (xs : List A) : Type 0 where
  pub x : A
  pub ys : List A
  pub rest : List Token
  pub is : f ts ≡ took x rest
  pub are : many f m rest ≡ took ys us
  pub both : xs ≡ x ∷ ys

pub first_of : {A : Type 0} (f : List Token → Took A) (m : ℕ) (ts us : List Token) (xs : List A) → many f (suc m) ts ≡ took xs us → First f m ts us xs
unfolding many
first_of {A = A} f m ts us xs e = by (f ts) refl e
  where
    more : (x : A) (rest : List Token) (v : Took (List A)) → f ts ≡ took x rest → many f m rest ≡ v → then v (λ ys r. took (x ∷ ys) r) ≡ took xs us → First f m ts us xs
    more x rest (took ys vs) p q e =
        let same : vs ≡ us = cc in
        let both : x ∷ ys ≡ xs = cc in
        record { x = x; ys = ys; rest = rest; is = p; are = q ∙ ap (took ys) same; both = sym both }
    more x rest other p q e = absurd (let z : ◌≡◌ {A = ℕ} 0 1 = cc in omega arith)

    by : (v : Took A) → f ts ≡ v → then v (λ x r. then (many f m r) (λ ys r. took (x ∷ ys) r)) ≡ took xs us → First f m ts us xs
    by (took x rest) p e = more x rest (many f m rest) p refl e
    by other p e = absurd (let z : ◌≡◌ {A = ℕ} 0 1 = cc in omega arith)

-- there are as many as were asked for
pub many_length : {A : Type 0} (f : List Token → Took A) (n : ℕ) (ts us : List Token) (xs : List A) → many f n ts ≡ took xs us → length xs ≡ n
unfolding many
many_length f zero ts us xs e = let q : xs ≡ [] = cc in ap length q
many_length f (suc m) ts us xs e =
    let g = first_of f m ts us xs e in
    ap length g.both ∙ ap suc (many_length f m g.rest us g.ys g.are)

pub values_length : (n : ℕ) (ts us : List Token) (xs : List ℕ) → values n ts ≡ took xs us → length xs ≡ n
values_length n ts us xs e = many_length value n ts us xs e

-- passing them

pub pass_none : (n m : ℕ) (ts : List Token) → n ≡ suc m → value ts ≡ other → passed (values n ts) ≡ other
unfolding many
pass_none n m ts p e = ap (λ k. passed (values k ts)) p ∙ rw e

pub pass_more : (n m x : ℕ) (ts us : List Token) → n ≡ suc m → value ts ≡ took x us → passed (values n ts) ≡ passed (values m us)
unfolding many
pass_more n m x ts us p e = ap (λ k. passed (values k ts)) p ∙ (rw e (by (values m us)))
  where
    by : (v : Took (List ℕ)) → passed (then v (λ ys r. took (x ∷ ys) r)) ≡ passed v
    by (took ys r) = refl
    by other = refl

pub pass_all : (n : ℕ) (ts : List Token) → n ≡ 0 → passed (values n ts) ≡ took tt ts
unfolding many
pass_all n ts p = ap (λ k. passed (values k ts)) p

-- writing them into a row

pub record Filling (src : List ℕ) (to i n : ℕ) (row xs : List ℕ) : Type 0 where
  pub rest : ValuesAt src to (drop i xs) (n - i)
  pub done : take i row ≡ take i xs
  pub long : length xs ≡ n

pub fill_none : (src : List ℕ) (at n : ℕ) (row xs : List ℕ) → ValuesAt src at xs n → Filling src at 0 n row xs
fill_none src at n row xs v =
    let e : n ≡ n - 0 = omega arith in
    record { rest = subst (ValuesAt src at xs) e v; done = refl; long = values_length n v.ts v.us xs v.are }

pub fill_stop : (src : List ℕ) (to i n : ℕ) (row xs : List ℕ) → Filling src to i n row xs → i < n → ((us : List Token) → TokensAt src to us → value us ≡ other) → ⊥
fill_stop src to i n row xs f h no_value =
    let v = f.rest in
    let p : n - i ≡ suc (n - i - 1) = omega arith in
    let g = first_of value (n - i - 1) v.ts v.us (drop i xs) (ap (λ k. values k v.ts) (sym p) ∙ v.are) in
    let q = no_value v.ts v.here in
    let r = g.is in
    let z : ◌≡◌ {A = ℕ} 0 1 = cc in omega arith

pub fill_more : (src : List ℕ) (to : ℕ) (src' : List ℕ) (e i n x : ℕ) (row xs : List ℕ) → length row ≡ n → Filling src to i n row xs → i < n → ((us : List Token) → TokensAt src to us → (vs : List Token) × (value us ≡ took x vs) × TokensAt src' e vs) → Filling src' e (i + 1) n (set row i x) xs
fill_more src to src' e i n x row xs l f h taken =
    let v = f.rest in
    let p : n - i ≡ suc (n - (i + 1)) = omega arith in
    let g = first_of value (n - (i + 1)) v.ts v.us (drop i xs) (ap (λ k. values k v.ts) (sym p) ∙ v.are) in
    let t = taken v.ts v.here in
    let gi = g.is in
    let ti = t.1 in
    let long = f.long in
    let in-xs : i < length xs = omega arith in
    let in_row : i < length row = omega arith in
    let d = drop_more xs i 0 in-xs in
    let gb = g.both in
    let same-x : x ≡ get_or xs i 0 = cc in
    let same-ys : g.ys ≡ drop (i + 1) xs = cc in
    let same_rest : g.rest ≡ t.0 = cc in
    record {
      rest = record { ts = g.rest; us = v.us; here = subst (TokensAt src' e) (sym same_rest) t.2; are = g.are ∙ ap (λ ys. took ys v.us) same-ys };
      done = take_more_set row i x in_row ∙ (ap (λ zs. zs ++ (x ∷ [])) f.done ∙ (ap (λ y. take i xs ++ (y ∷ [])) same-x ∙ sym (take_more xs i 0 in-xs)));
      long = long;
    }

pub fill_all : (src : List ℕ) (to i n : ℕ) (row xs : List ℕ) → length row ≡ n → Filling src to i n row xs → n ≤ i → row ≡ xs
fill_all src to i n row xs l f h =
    let long = f.long in
    let a : length row ≤ i = omega arith in
    let b : length xs ≤ i = omega arith in
    sym (take_all i row a) ∙ (f.done ∙ take_all i xs b)
