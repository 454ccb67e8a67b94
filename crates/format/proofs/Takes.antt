-- The tokens of the writer's lines are taken for what was written.
use Rattle.std.proofs.Common.{◌≡◌, ℕ, ◌≤◌, true, eqb, List, [], ◌∷◌, length, decimal, sym, refl, ap, subst, arith}
use Rattle.std.specs.List.{AllByRecursion}
use Rattle.std.proofs.lemmas.Bool.{cond_both, eqb-true, eqb-false, eq-eqb, and_from}
use Rattle.format.specs.Plain.{Lane, Mark, beyond}
use Rattle.format.specs.Form.{digits, Token, closed, hyphen, run}
use Rattle.format.specs.Items.{took, same, value, many, values, triple, table, mark_form, plant_form, lane_form, plant_word, lane_word, Counts, to_word, from_word}
use Rattle.format.proofs.Numbers.{number_of}
use Rattle.format.proofs.Sounds.{Sound}
use Rattle.format.proofs.Lines.{triple-tokens, value_token, values-tokens, table-tokens, mark-tokens}

same_self : (w : List ℕ) → same w w ≡ true
same_self [] = refl
same_self (c ∷ w) = and_from (eqb c c) (same w w) (eq-eqb c c refl) (same_self w)

triple_takes : (w : List ℕ) (a b c : ℕ) → a ≤ 4294967294 → b ≤ 4294967294 → c ≤ 4294967294 → triple w (triple-tokens w a b c) ≡ took (a, b, c) []
unfolding triple
triple_takes w a b c ha hb hc = rw (same_self w, (number_of a ha).reads_back, (number_of b hb).reads_back, (number_of c hc).reads_back)

pub plant_takes : (n : Counts) → n.nodes ≤ 4294967294 → n.lanes ≤ 4294967294 → n.marks ≤ 4294967294 → plant_form (triple-tokens plant_word n.nodes n.lanes n.marks) ≡ took n []
unfolding plant_form
plant_takes n ha hb hc = rw (triple_takes plant_word n.nodes n.lanes n.marks ha hb hc)

pub lane_takes : (l : Lane) → l.tail ≤ 4294967294 → l.head ≤ 4294967294 → l.cost ≤ 4294967294 → lane_form (triple-tokens lane_word l.tail l.head l.cost) ≡ took l []
unfolding lane_form
lane_takes l ha hb hc = rw (triple_takes lane_word l.tail l.head l.cost ha hb hc)

value_takes : (x : ℕ) (ks : List Token) → x ≤ beyond → value (value_token x ∷ ks) ≡ took x ks
value_takes x ks h = cond_both (eqb x beyond) hyphen (run digits (decimal x)) (λ k. value (k ∷ ks) ≡ took x ks)
    (λ q. ap (λ y. took y ks) (sym (eqb-true x beyond q)))
    (λ q. let ne = eqb-false x beyond q in ap (λ y. took y ks) (number_of x (omega arith)).reads_back)

values_takes : (xs : List ℕ) (ks : List Token) → AllByRecursion (λ x. x ≤ beyond) xs → values (length xs) (values-tokens xs ks) ≡ took xs ks
unfolding many
values_takes [] ks h = refl
values_takes (x ∷ xs) ks h = rw (value_takes x (values-tokens xs ks) h.0, values_takes xs ks h.1)

table_takes : (w xs : List ℕ) (ks : List Token) → AllByRecursion (λ x. x ≤ beyond) xs → table w (length xs) (table-tokens w xs ks) ≡ took xs ks
unfolding table
table_takes w xs ks h = rw (same_self w, values_takes xs (closed ∷ ks) h)

pub mark_takes : (n : ℕ) (m : Mark) → length m.to ≡ n → AllByRecursion (λ x. x ≤ beyond) m.to → length m.from ≡ n → AllByRecursion (λ x. x ≤ beyond) m.from → mark_form n (mark-tokens m) ≡ took m []
unfolding mark_form
mark_takes n m p to q from =
    let first : table to_word n (table-tokens to_word m.to (table-tokens from_word m.from (closed ∷ []))) ≡ took m.to (table-tokens from_word m.from (closed ∷ [])) =
    subst (λ k. table to_word k (table-tokens to_word m.to (table-tokens from_word m.from (closed ∷ []))) ≡ took m.to (table-tokens from_word m.from (closed ∷ []))) p (table_takes to_word m.to _ to) in
    let second : table from_word n (table-tokens from_word m.from (closed ∷ [])) ≡ took m.from (closed ∷ []) =
    subst (λ k. table from_word k (table-tokens from_word m.from (closed ∷ [])) ≡ took m.from (closed ∷ [])) q (table_takes from_word m.from _ from) in
    rw (first, second)

-- their numbers are sound

pub sound-triple : (w : List ℕ) (a b c : ℕ) → a ≤ 4294967294 → b ≤ 4294967294 → c ≤ 4294967294 → AllByRecursion Sound (triple-tokens w a b c)
sound-triple w a b c ha hb hc = (tt, (tt, ((number_of a ha).fits, ((number_of b hb).fits, ((number_of c hc).fits, (tt, tt))))))

sound-values : (xs : List ℕ) (ks : List Token) → AllByRecursion (λ x. x ≤ beyond) xs → AllByRecursion Sound ks → AllByRecursion Sound (values-tokens xs ks)
sound-values [] ks h s = s
sound-values (x ∷ xs) ks h s =
    (cond_both (eqb x beyond) hyphen (run digits (decimal x)) Sound (λ _. tt) (λ q. let ne = eqb-false x beyond q in let le = h.0 in (number_of x (omega arith)).fits), sound-values xs ks h.1 s)

pub sound-mark : (m : Mark) → AllByRecursion (λ x. x ≤ beyond) m.to → AllByRecursion (λ x. x ≤ beyond) m.from → AllByRecursion Sound (mark-tokens m)
sound-mark m to from = (tt, (tt, (tt, (tt, sound-values m.to _ to (tt, (tt, (tt, sound-values m.from _ from (tt, (tt, tt)))))))))
