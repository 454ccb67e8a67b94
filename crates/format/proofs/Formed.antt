-- A line's answer from its walk and the test of its numbers.
use Rattle.std.proofs.Common.{◌≡◌, ℕ, false, List, Some, None, refl, ap, ◌∙◌, arith}
use Rattle.format.specs.Form.{Token, begin, Scanned, line, unfit, scan}
use Rattle.format.specs.Items.{Took, unsound, all}
use Rattle.format.specs.Turns.{Fault, got, lost, tokens, form}
use Rattle.format.specs.Walk.{ends, off, line_walk}
use Rattle.format.proofs.Walks.{stripped, walk_is_scan}

pub no_form : (n : ℕ) (t : List ℕ) (b : ℕ) → line_walk t ≡ off b → tokens n t ≡ lost (record { number = 13; first = n; second = b; at = 0 })
unfolding tokens
no_form n t b e = let q = by (scan begin 1 t) (walk_is_scan t ∙ e) in rw q
  where
    by : (x : Scanned) → stripped x ≡ off b → x ≡ unfit b
    by (line ts rest) e = cc
    by (unfit c) e = cc

-- the line's tokens
pub record Formed (t rest : List ℕ) : Type 0 where
  pub ts : List Token
  pub is : scan begin 1 t ≡ line ts rest

pub formed : (t rest : List ℕ) → line_walk t ≡ ends rest → Formed t rest
formed t rest e = by (scan begin 1 t) refl (walk_is_scan t ∙ e)
  where
    by : (x : Scanned) → scan begin 1 t ≡ x → stripped x ≡ ends rest → Formed t rest
    by (line ts r) q e = let p : r ≡ rest = cc in record { ts = ts; is = q ∙ ap (line ts) p }
    by (unfit c) q e = absurd (let z : ◌≡◌ {A = ℕ} 0 1 = cc in omega arith)

pub bad_number : (n : ℕ) (t rest : List ℕ) (b : ℕ) (ts : List Token) → scan begin 1 t ≡ line ts rest → unsound false 1 ts ≡ Some b → tokens n t ≡ lost (record { number = 15; first = n; second = b; at = 0 })
unfolding tokens
bad_number n t rest b ts e u = rw (e, u)

pub good_line : (n : ℕ) (t rest : List ℕ) (ts : List Token) → scan begin 1 t ≡ line ts rest → unsound false 1 ts ≡ None → tokens n t ≡ got ts rest
unfolding tokens
good_line n t rest ts e u = rw (e, u)

-- the line's form from its tokens

pub form_lost : {A : Type 0} (f : List Token → Took A) (n : ℕ) (t : List ℕ) (e : Fault) → tokens n t ≡ lost e → form f n t ≡ lost e
unfolding form
form_lost f n t e q = rw q

pub form_other : {A : Type 0} (f : List Token → Took A) (n : ℕ) (t rest : List ℕ) (ts : List Token) → tokens n t ≡ got ts rest → all (f ts) ≡ None → form f n t ≡ lost (record { number = 14; first = n; second = 0; at = 0 })
unfolding form
form_other f n t rest ts q e = rw (q, e)

pub form_got : {A : Type 0} (f : List Token → Took A) (n : ℕ) (t rest : List ℕ) (ts : List Token) (a : A) → tokens n t ≡ got ts rest → all (f ts) ≡ Some a → form f n t ≡ got a rest
unfolding form
form_got f n t rest ts a q e = rw (q, e)
