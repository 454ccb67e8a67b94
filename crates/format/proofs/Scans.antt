-- Tokens that are spelled out are scanned again.
use Rattle.std.proofs.Common.{◌≡◌, ℕ, suc, ◌<◌, true, false, leb, List, [], ◌∷◌, ◌++◌, length, sym, refl, ap, ◌∙◌, subst, append_assoc, append-nil, arith}
use Rattle.std.proofs.lemmas.Bool.{leb-true, lt-leb, and_parts, and_left, cond-true, cond-false}
use Rattle.format.specs.Form.{Kind, letters, digits, Token, opened, closed, hyphen, run, Depth, outer, nested, State, begin, need, past, within, ended, Turn, refuse, finish, go, belongs, shut, enter, turn, Scanned, line, unfit, put, scan}
use Rattle.format.proofs.Numbers.{Run}

-- from a state on the bytes t are scanned to ts, wherever in the line they stand
abbrev pub Scans : State → List ℕ → List Token → List ℕ → Type 0
Scans s t ts rest = (b : ℕ) → scan s b t ≡ line ts rest

scans_turn : (s : State) (c : ℕ) (ks : List Token) (s' : State) (t : List ℕ) (ts : List Token) (rest : List ℕ) → turn s c ≡ go ks s' → Scans s' t ts rest → Scans s (c ∷ t) (ks ++ ts) rest
unfolding scan
scans_turn s c ks s' t ts rest e h b =
    ap (λ (x : Turn). elim x as (λ _. Scanned) [ refuse ↦ unfit b | finish ↦ line [] t | go ks s' ↦ put ks (scan s' (suc b) t) ]) e ∙ ap (put ks) (h (suc b))

-- a run goes on
scans_more : (d : Depth) (k : Kind) (w v t : List ℕ) (ts : List Token) (rest : List ℕ) → Run k w → Scans (within d k (v ++ w)) t ts rest → Scans (within d k v) (w ++ t) ts rest
scans_more d k [] v t ts rest r h = subst (λ u. Scans (within d k u) t ts rest) (append-nil v) h
scans_more d k (c ∷ w) v t ts rest r h =
    scans_turn (within d k v) c [] (within d k (v ++ (c ∷ []))) (w ++ t) ts rest
    (cond-true (belongs k c) _ _ r.0)
    (scans_more d k w (v ++ (c ∷ [])) t ts rest r.1 (subst (λ u. Scans (within d k u) t ts rest) (sym (append_assoc v (c ∷ []) w)) h))

pub digit_no_letter : (c : ℕ) → belongs digits c ≡ true → belongs letters c ≡ false
unfolding belongs
digit_no_letter c h = and_left (leb 97 c) (leb c 122) (lt-leb 97 c (let k = leb-true c 57 (and_parts (leb 48 c) (leb c 57) h).1 in omega arith))

enters : (d : Depth) (k : Kind) (c : ℕ) → belongs k c ≡ true → enter d c ≡ go [] (within d k (c ∷ []))
enters d letters c h = cond-true (belongs letters c) _ _ h
enters d digits c h = cond-false (belongs letters c) _ _ (digit_no_letter c h) ∙ cond-true (belongs digits c) _ _ h

-- a run begins
pub scans_run : (d : Depth) (k : Kind) (w t : List ℕ) (ts : List Token) (rest : List ℕ) → Run k w → 0 < length w → Scans (within d k w) t ts rest → Scans (need d) (w ++ t) ts rest
scans_run d k [] t ts rest r some h = absurd (omega arith)
scans_run d k (c ∷ w) t ts rest r some h =
    scans_turn (need d) c [] (within d k (c ∷ [])) (w ++ t) ts rest (enters d k c r.0) (scans_more d k w (c ∷ []) t ts rest r.1 h)

-- a run ends at a space or a bracket
pub run_space : (d : Depth) (k : Kind) (w t : List ℕ) (ts : List Token) (rest : List ℕ) → Scans (need d) t ts rest → Scans (within d k w) (32 ∷ t) (run k w ∷ ts) rest
unfolding belongs
run_space d letters w t ts rest h = scans_turn (within d letters w) 32 (run letters w ∷ []) (need d) t ts rest refl h
run_space d digits w t ts rest h = scans_turn (within d digits w) 32 (run digits w ∷ []) (need d) t ts rest refl h

pub run_close : (d : Depth) (k : Kind) (w t : List ℕ) (ts : List Token) (rest : List ℕ) → Scans (shut d) t ts rest → Scans (within d k w) (41 ∷ t) (run k w ∷ closed ∷ ts) rest
unfolding belongs
run_close d letters w t ts rest h = scans_turn (within d letters w) 41 (run letters w ∷ closed ∷ []) (shut d) t ts rest refl h
run_close d digits w t ts rest h = scans_turn (within d digits w) 41 (run digits w ∷ closed ∷ []) (shut d) t ts rest refl h

pub scans_hyphen : (d : Depth) (t : List ℕ) (ts : List Token) (rest : List ℕ) → Scans (past d) t ts rest → Scans (need d) (45 ∷ t) (hyphen ∷ ts) rest
unfolding belongs
scans_hyphen d t ts rest h = scans_turn (need d) 45 (hyphen ∷ []) (past d) t ts rest refl h

pub scans_space : (d : Depth) (t : List ℕ) (ts : List Token) (rest : List ℕ) → Scans (need d) t ts rest → Scans (past d) (32 ∷ t) ts rest
scans_space d t ts rest h = scans_turn (past d) 32 [] (need d) t ts rest refl h

pub scans_close : (d : Depth) (t : List ℕ) (ts : List Token) (rest : List ℕ) → Scans (shut d) t ts rest → Scans (past d) (41 ∷ t) (closed ∷ ts) rest
scans_close d t ts rest h = scans_turn (past d) 41 (closed ∷ []) (shut d) t ts rest refl h

pub scans_open : (t : List ℕ) (ts : List Token) (rest : List ℕ) → Scans (need outer) t ts rest → Scans begin (40 ∷ t) (opened ∷ ts) rest
scans_open t ts rest h = scans_turn begin 40 (opened ∷ []) (need outer) t ts rest refl h

pub scans_nested : (t : List ℕ) (ts : List Token) (rest : List ℕ) → Scans (need nested) t ts rest → Scans (need outer) (40 ∷ t) (opened ∷ ts) rest
unfolding belongs
scans_nested t ts rest h = scans_turn (need outer) 40 (opened ∷ []) (need nested) t ts rest refl h

pub scans_end : (rest : List ℕ) → Scans ended (10 ∷ rest) [] rest
unfolding scan
scans_end rest b = refl
