-- What is read as a plant is what the writer writes of it, and the plant is lawful.
use Rattle.std.proofs.Common.{◌≡◌, ℕ, zero, suc, ◌+◌, true, false, List, [], ◌∷◌, ◌++◌, length, Some, None, Option, sym, refl, ap, ◌∙◌, subst₂, append_assoc, arith}
use Rattle.std.specs.List.{AllByRecursion}
use Rattle.format.specs.Plain.{Lane, Mark, Plain, Lawful, Table}
use Rattle.format.specs.Written.{plant_line, lane_line, mark_line, texts, written}
use Rattle.format.specs.Form.{Token, begin, Scanned, line, unfit, scan}
use Rattle.format.specs.Items.{Took, all, unsound, Counts, plant_form, lane_form, mark_form}
use Rattle.format.specs.Turns.{Fault, Got, got, lost, on, or_13, or_14, or_15, tokens, form, forms, lines}
use Rattle.format.specs.Checks.{Room, has_room, tested}
use Rattle.format.specs.Read.{unless, read}
use Rattle.format.proofs.Spelled.{Good, spelled, scanned_only}
use Rattle.format.proofs.Sounds.{Sound, none_sound}
use Rattle.format.proofs.Lines.{plant_spelled, lane_spelled, mark_spelled}
use Rattle.format.proofs.TakesOnly.{Fair, plant_only, lane_only, mark_only}
use Rattle.format.proofs.Tested.{none_passes}

record Parts {A B : Type 0} (x : Got A) (f : A → List ℕ → Got B) (b : B) (r : List ℕ) : Type 0 where
  mid : A
  left : List ℕ
  was : x ≡ got mid left
  goes : f mid left ≡ got b r

on_only : {A B : Type 0} (x : Got A) (f : A → List ℕ → Got B) (b : B) (r : List ℕ) → on x f ≡ got b r → Parts x f b r
on_only (got a t) f b r e = record { mid = a; left = t; was = refl; goes = e }
on_only (lost q) f b r e = absurd (let z : ◌≡◌ {A = ℕ} 0 1 = cc in omega arith)

fair_from : (ts : List Token) → AllByRecursion Good ts → AllByRecursion Sound ts → AllByRecursion Fair ts
fair_from [] g s = tt
fair_from (k ∷ ts) g s = ((g.0, s.0), fair_from ts g.1 s.1)

record IsLine (t : List ℕ) (ts : List Token) (rest : List ℕ) : Type 0 where
  spelt : t ≡ spelled false ts (10 ∷ rest)
  fair : AllByRecursion Fair ts

tokens_only : (n : ℕ) (t : List ℕ) (ts : List Token) (rest : List ℕ) → tokens n t ≡ got ts rest → IsLine t ts rest
unfolding tokens
tokens_only n t ts rest e = by (scan begin 1 t) refl e
  where
    by_sound : (us : List Token) (r : List ℕ) → scan begin 1 t ≡ line us r → (o : Option ℕ) → unsound false 1 us ≡ o → or_15 n o us r ≡ got ts rest → IsLine t ts rest
    by_sound us r q None o e =
        let s = scanned_only t us r q in
        subst₂ (IsLine t) (cc) (cc) (record { spelt = s.0; fair = fair_from us s.1 (none_sound us false 1 o) })
    by_sound us r q (Some b) o e = absurd (let z : ◌≡◌ {A = ℕ} 0 1 = cc in omega arith)

    by : (x : Scanned) → scan begin 1 t ≡ x → or_13 n x ≡ got ts rest → IsLine t ts rest
    by (line us r) q e = by_sound us r q (unsound false 1 us) refl e
    by (unfit b) q e = absurd (let z : ◌≡◌ {A = ℕ} 0 1 = cc in omega arith)

record IsForm {A : Type 0} (f : List Token → Took A) (t : List ℕ) (a : A) (rest : List ℕ) : Type 0 where
  ts : List Token
  spelt : t ≡ spelled false ts (10 ∷ rest)
  fair : AllByRecursion Fair ts
  taken : all (f ts) ≡ Some a

form_only : {A : Type 0} (f : List Token → Took A) (n : ℕ) (t : List ℕ) (a : A) (rest : List ℕ) → form f n t ≡ got a rest → IsForm f t a rest
unfolding form
form_only f n t a rest e =
    let p = on_only (tokens n t) _ a rest e in
    let l = tokens_only n t p.mid p.left p.was in
    by p.mid p.left l (all (f p.mid)) refl p.goes
  where
    by : (ts : List Token) (r : List ℕ) → IsLine t ts r → (o : Option _) → all (f ts) ≡ o → or_14 n o r ≡ got a rest → IsForm f t a rest
    by ts r l None o e = absurd (let z : ◌≡◌ {A = ℕ} 0 1 = cc in omega arith)
    by ts r l (Some x) o e =
        subst₂ (IsForm f t) (cc) (cc) (record { ts = ts; spelt = l.spelt; fair = l.fair; taken = o })

-- line after line
record AreForms {A : Type 0} (text : A → List ℕ) (Q : A → Type 0) (k : ℕ) (t : List ℕ) (xs : List A) (rest : List ℕ) : Type 0 where
  spelt : t ≡ texts text xs ++ rest
  count : length xs ≡ k
  each : AllByRecursion Q xs

forms_only : {A : Type 0} (f : List Token → Took A) (text : A → List ℕ) (Q : A → Type 0) → ((n : ℕ) (t : List ℕ) (a : A) (rest : List ℕ) → form f n t ≡ got a rest → (t ≡ text a ++ rest) × Q a) → (k n : ℕ) (t : List ℕ) (xs : List A) (rest : List ℕ) → forms f k n t ≡ got xs rest → AreForms text Q k t xs rest
unfolding forms
forms_only f text Q one zero n t xs rest e =
    let a : [] ≡ xs = cc in
    let b : t ≡ rest = cc in
    subst₂ (AreForms text Q 0 t) a b (record { spelt = refl; count = refl; each = tt })
forms_only f text Q one (suc k) n t xs rest e =
    let p = on_only (form f n t) _ xs rest e in
    let a = one n t p.mid p.left p.was in
    let q = on_only (forms f k (suc n) p.left) _ xs rest p.goes in
    let i = forms_only f text Q one k (suc n) p.left q.mid q.left q.was in
    join p.mid p.left q.mid q.left a i q.goes
  where
    join : (a : _) (u : List ℕ) (as' : List _) (v : List ℕ) → (t ≡ text a ++ u) × Q a → AreForms text Q k u as' v → got (a ∷ as') v ≡ got xs rest → AreForms text Q (suc k) t xs rest
    join a u as' v h i e =
        let x : a ∷ as' ≡ xs = cc in
        let y : v ≡ rest = cc in
        subst₂ (AreForms text Q (suc k) t) x y
        (record { spelt = h.0 ∙ (ap (λ z. text a ++ z) i.spelt ∙ sym (append_assoc (text a) (texts text as') v)); count = ap suc i.count; each = (h.1, i.each) })

plant_form_only : (t : List ℕ) (n : Counts) (rest : List ℕ) → form plant_form 1 t ≡ got n rest → t ≡ plant_line n.nodes n.lanes n.marks ++ rest
plant_form_only t n rest e =
    let p = form_only plant_form 1 t n rest e in
    let q = plant_only p.ts n p.fair p.taken in
    p.spelt ∙ (ap (λ ts. spelled false ts (10 ∷ rest)) q.spelt ∙ sym (plant_spelled n.nodes n.lanes n.marks rest))

lane_form_only : (n : ℕ) (t : List ℕ) (l : Lane) (rest : List ℕ) → form lane_form n t ≡ got l rest → (t ≡ lane_line l ++ rest) × Unit {0}
lane_form_only n t l rest e =
    let p = form_only lane_form n t l rest e in
    let q = lane_only p.ts l p.fair p.taken in
    (p.spelt ∙ (ap (λ ts. spelled false ts (10 ∷ rest)) q.spelt ∙ sym (lane_spelled l rest)), tt)

mark_form_only : (nodes n : ℕ) (t : List ℕ) (m : Mark) (rest : List ℕ) → form (mark_form nodes) n t ≡ got m rest → (t ≡ mark_line m ++ rest) × (Table nodes m.to × Table nodes m.from)
mark_form_only nodes n t m rest e =
    let p = form_only (mark_form nodes) n t m rest e in
    let q = mark_only nodes p.ts m p.fair p.taken in
    (p.spelt ∙ (ap (λ ts. spelled false ts (10 ∷ rest)) q.spelt ∙ sym (mark_spelled m rest)), q.tables)

abbrev Tables : ℕ → Mark → Type 0
Tables nodes m = Table nodes m.to × Table nodes m.from

record AreLines (t : List ℕ) (p : Plain) (rest : List ℕ) : Type 0 where
  spelt : t ≡ written p ++ rest
  tables : AllByRecursion (Tables p.nodes) p.marks

glue : (a b c w u v t : List ℕ) → t ≡ a ++ u → u ≡ b ++ v → v ≡ c ++ w → t ≡ (a ++ (b ++ c)) ++ w
glue a b c w u v t p q r = p ∙ (ap (λ z. a ++ z) (q ∙ (ap (λ z. b ++ z) r ∙ sym (append_assoc b c w))) ∙ sym (append_assoc a (b ++ c) w))

lines_only : (t : List ℕ) (p : Plain) (rest : List ℕ) → lines t ≡ got p rest → AreLines t p rest
unfolding lines written
lines_only t p rest e =
    let a = on_only (form plant_form 1 t) _ p rest e in
    let b = on_only (forms lane_form a.mid.lanes 2 a.left) _ p rest a.goes in
    let c = on_only (forms (mark_form a.mid.nodes) a.mid.marks (2 + a.mid.lanes) b.left) _ p rest b.goes in
    join a.mid a.left b.mid b.left c.mid c.left
    (plant_form_only t a.mid a.left a.was)
    (forms_only lane_form lane_line (λ _. Unit {0}) lane_form_only a.mid.lanes 2 a.left b.mid b.left b.was)
    (forms_only (mark_form a.mid.nodes) mark_line (Tables a.mid.nodes) (mark_form_only a.mid.nodes) a.mid.marks (2 + a.mid.lanes) b.left c.mid c.left c.was)
    c.goes
  where
    join : (n : Counts) (u : List ℕ) (ls : List Lane) (v : List ℕ) (ms : List Mark) (w : List ℕ) → t ≡ plant_line n.nodes n.lanes n.marks ++ u → AreForms lane_line (λ _. Unit {0}) n.lanes u ls v → AreForms mark_line (Tables n.nodes) n.marks v ms w → got (record { nodes = n.nodes; lanes = ls; marks = ms }) w ≡ got p rest → AreLines t p rest
    join n u ls v ms w h l m e =
        subst₂ (AreLines t) (cc) (cc) (record { spelt = whole; tables = m.each })
      where
        whole : t ≡ written (record { nodes = n.nodes; lanes = ls; marks = ms }) ++ w
        whole = glue (plant_line n.nodes (length ls) (length ms)) (texts lane_line ls) (texts mark_line ms) w u v t
            (subst₂ (λ x y. t ≡ plant_line n.nodes x y ++ u) (sym l.count) (sym m.count) h) l.spelt m.spelt

pub read_is_written : (room : Room) (t : List ℕ) (p : Plain) (rest : List ℕ) → read room t ≡ got p rest → Lawful p × (has_room room p ≡ true) × (t ≡ written p ++ rest)
unfolding read
read_is_written room t p rest e =
    let a = on_only (lines t) _ p rest e in
    let l = lines_only t a.mid a.left a.was in
    by a.mid a.left l (tested room a.mid) refl a.goes
  where
    by : (q : Plain) (r : List ℕ) → AreLines t q r → (o : Option Fault) → tested room q ≡ o → unless q r o ≡ got p rest → Lawful p × (has_room room p ≡ true) × (t ≡ written p ++ rest)
    by q r l None o e =
        let n = none_passes room q o in
        let h = n.0 in
        subst₂ (λ p rest. Lawful p × (has_room room p ≡ true) × (t ≡ written p ++ rest)) (cc) (cc)
        (record { some_node = h.some_node; few_nodes = h.few_nodes; few_lanes = h.few_lanes; few_marks = h.few_marks; ends = h.ends; cheap = h.cheap; tables = l.tables; kept = h.kept }, n.1, l.spelt)
    by q r l (Some f) o e = absurd (let z : ◌≡◌ {A = ℕ} 0 1 = cc in omega arith)
