-- The tokens of the writer's lines: they spell the lines, and the lines are scanned to them.
use Rattle.std.proofs.Common.{◌≡◌, ℕ, ◌<◌, ◌≤◌, Bool, true, false, cond, eqb, List, [], ◌∷◌, ◌++◌, length, decimal, sym, refl, ap, ◌∙◌, append_assoc, arith}
use Rattle.std.specs.List.{AllByRecursion}
use Rattle.std.proofs.lemmas.Bool.{cond_both, eqb-false}
use Rattle.format.specs.Plain.{Lane, Mark, beyond}
use Rattle.format.specs.Written.{value_text, values_text, plant_line, lane_line, mark_line}
use Rattle.format.specs.Form.{Kind, letters, digits, Token, opened, closed, hyphen, run, outer, nested, begin, need, past, within, belongs}
use Rattle.format.specs.Items.{plant_word, lane_word, mark_word, to_word, from_word}
use Rattle.format.proofs.Numbers.{Run, number_of}
use Rattle.format.proofs.Spelled.{spelled}
use Rattle.format.proofs.Scans.{Scans, scans_run, run_space, run_close, scans_hyphen, scans_space, scans_close, scans_open, scans_nested, scans_end}

abbrev pub triple-tokens : List ℕ → ℕ → ℕ → ℕ → List Token
triple-tokens w a b c = opened ∷ run letters w ∷ run digits (decimal a) ∷ run digits (decimal b) ∷ run digits (decimal c) ∷ closed ∷ []

abbrev pub value_token : ℕ → Token
value_token x = cond (eqb x beyond) hyphen (run digits (decimal x))

abbrev pub values-tokens : List ℕ → List Token → List Token
values-tokens [] ks = ks
values-tokens (x ∷ xs) ks = value_token x ∷ values-tokens xs ks

-- a table's tokens, before others
abbrev pub table-tokens : List ℕ → List ℕ → List Token → List Token
table-tokens w xs ks = opened ∷ run letters w ∷ values-tokens xs (closed ∷ ks)

abbrev pub mark-tokens : Mark → List Token
mark-tokens m = opened ∷ run letters mark_word ∷ table-tokens to_word m.to (table-tokens from_word m.from (closed ∷ []))

-- the lines are the tokens, spelled out

pub plant_spelled : (a b c : ℕ) (rest : List ℕ) → plant_line a b c ++ rest ≡ spelled false (triple-tokens plant_word a b c) (10 ∷ rest)
plant_spelled a b c rest = simp append_assoc

pub lane_spelled : (l : Lane) (rest : List ℕ) → lane_line l ++ rest ≡ spelled false (triple-tokens lane_word l.tail l.head l.cost) (10 ∷ rest)
lane_spelled l rest = simp append_assoc

value_spelled : (b : Bool) (x : ℕ) (ks : List Token) (e : List ℕ) → spelled true (cond b hyphen (run digits (decimal x)) ∷ ks) e ≡ 32 ∷ (cond b (45 ∷ []) (decimal x) ++ spelled true ks e)
value_spelled true x ks e = refl
value_spelled false x ks e = refl

values_spelled : (xs : List ℕ) (ks : List Token) (e : List ℕ) → spelled true (values-tokens xs ks) e ≡ values_text xs ++ spelled true ks e
values_spelled [] ks e = refl
values_spelled (x ∷ xs) ks e =
    value_spelled (eqb x beyond) x (values-tokens xs ks) e ∙ ap (λ u. 32 ∷ u) (ap (λ u. value_text x ++ u) (values_spelled xs ks e) ∙ sym (append_assoc (value_text x) (values_text xs) (spelled true ks e)))

pub mark_spelled : (m : Mark) (rest : List ℕ) → mark_line m ++ rest ≡ spelled false (mark-tokens m) (10 ∷ rest)
mark_spelled m rest = simp (append_assoc, values_spelled)

-- the lines are scanned to the tokens

pub scans_triple : (w : List ℕ) (a b c : ℕ) (rest : List ℕ) → Run letters w → 0 < length w → a ≤ 4294967294 → b ≤ 4294967294 → c ≤ 4294967294 → Scans begin (spelled false (triple-tokens w a b c) (10 ∷ rest)) (triple-tokens w a b c) rest
scans_triple w a b c rest r some ha hb hc =
    let na = number_of a ha in let nb = number_of b hb in let nc = number_of c hc in
    scans_open _ _ rest (scans_run outer letters w _ _ rest r some (run_space outer letters w _ _ rest
    (scans_run outer digits (decimal a) _ _ rest na.figures na.some (run_space outer digits (decimal a) _ _ rest
    (scans_run outer digits (decimal b) _ _ rest nb.figures nb.some (run_space outer digits (decimal b) _ _ rest
    (scans_run outer digits (decimal c) _ _ rest nc.figures nc.some (run_close outer digits (decimal c) _ _ rest (scans_end rest)))))))))

-- values, behind an item or behind a run
abbrev Follow : List Token → List ℕ → List ℕ → Type 0
Follow ts t rest = Scans (past nested) t ts rest × ((k : Kind) (w : List ℕ) → Scans (within nested k w) t (run k w ∷ ts) rest)

scans_value : (x : ℕ) → x ≤ beyond → (ks : List Token) (e rest : List ℕ) → Follow ks (spelled true ks e) rest → Follow (value_token x ∷ ks) (spelled true (value_token x ∷ ks) e) rest
scans_value x h ks e rest f = cond_both (eqb x beyond) hyphen (run digits (decimal x)) (λ k. Follow (k ∷ ks) (spelled true (k ∷ ks) e) rest)
    (λ _. spaced _ _ (scans_hyphen nested _ _ rest f.0))
    (λ q. let ne = eqb-false x beyond q in
    let n = number_of x (omega arith) in
    spaced _ _ (scans_run nested digits (decimal x) _ _ rest n.figures n.some (f.1 digits (decimal x))))
  where
    spaced : (t : List ℕ) (ts : List Token) → Scans (need nested) t ts rest → Follow ts (32 ∷ t) rest
    spaced t ts s = (scans_space nested t ts rest s, λ k w. run_space nested k w t ts rest s)

scans_values : (xs : List ℕ) → AllByRecursion (λ x. x ≤ beyond) xs → (ks : List Token) (e rest : List ℕ) → Follow ks (spelled true ks e) rest → Follow (values-tokens xs ks) (spelled true (values-tokens xs ks) e) rest
scans_values [] h ks e rest f = f
scans_values (x ∷ xs) h ks e rest f = scans_value x h.0 (values-tokens xs ks) e rest (scans_values xs h.1 ks e rest f)

-- a table in a mark
scans_table : (w xs : List ℕ) → Run letters w → 0 < length w → AllByRecursion (λ x. x ≤ beyond) xs → (ks : List Token) (e rest : List ℕ) → Scans (past outer) (spelled true ks e) ks rest → Scans (need outer) (spelled false (table-tokens w xs ks) e) (table-tokens w xs ks) rest
scans_table w xs r some h ks e rest s =
    scans_nested _ _ rest (scans_run nested letters w _ _ rest r some
    ((scans_values xs h (closed ∷ ks) e rest (scans_close nested _ _ rest s, λ k w. run_close nested k w _ _ rest s)).1 letters w))

pub scans_mark : (m : Mark) → AllByRecursion (λ x. x ≤ beyond) m.to → AllByRecursion (λ x. x ≤ beyond) m.from → (rest : List ℕ) → Scans begin (spelled false (mark-tokens m) (10 ∷ rest)) (mark-tokens m) rest
unfolding belongs
scans_mark m to from rest =
    scans_open _ _ rest (scans_run outer letters mark_word _ _ rest (refl, (refl, (refl, (refl, tt)))) (omega arith) (run_space outer letters mark_word _ _ rest
    (scans_table to_word m.to (refl, (refl, tt)) (omega arith) to _ (10 ∷ rest) rest
    (scans_space outer _ _ rest
    (scans_table from_word m.from (refl, (refl, (refl, (refl, tt)))) (omega arith) from (closed ∷ []) (10 ∷ rest) rest
    (scans_close outer (10 ∷ rest) [] rest (scans_end rest)))))))
