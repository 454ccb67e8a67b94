-- What the writer writes of a lawful plant is read back as that plant, whatever stands behind it.
use Rattle.std.proofs.Common.{◌≡◌, ℕ, suc, ◌+◌, ◌≤◌, true, false, List, [], ◌∷◌, ◌++◌, length, refl, append_assoc, arith}
use Rattle.std.specs.List.{AllByRecursion}
use Rattle.format.specs.Plain.{Lane, Mark, Plain, Lawful, Table, EndsFrom}
use Rattle.format.specs.Written.{plant_line, lane_line, mark_line, texts, written}
use Rattle.format.specs.Form.{Token, begin, belongs}
use Rattle.format.specs.Items.{Took, took, Counts, plant_form, lane_form, mark_form, plant_word, lane_word}
use Rattle.format.specs.Turns.{got, tokens, form, forms, lines}
use Rattle.format.specs.Checks.{Room, has_room}
use Rattle.format.specs.Read.{read}
use Rattle.format.proofs.Sounds.{Sound, sound_none}
use Rattle.format.proofs.Scans.{Scans}
use Rattle.format.proofs.Lines.{plant_spelled, lane_spelled, mark_spelled, scans_triple, scans_mark}
use Rattle.format.proofs.Takes.{sound-triple, sound-mark, plant_takes, lane_takes, mark_takes}
use Rattle.format.proofs.Tested.{Passes, passes_none}

-- a line of which f takes all tokens
takes_form : {A : Type 0} (f : List Token → Took A) (n : ℕ) (t : List ℕ) (ts : List Token) (rest : List ℕ) (a : A) → Scans begin t ts rest → AllByRecursion Sound ts → f ts ≡ took a [] → form f n t ≡ got a rest
unfolding form tokens
takes_form f n t ts rest a s h e = rw (s 1, sound_none ts false 1 h, e)

-- line after line
takes_forms : {A : Type 0} (f : List Token → Took A) (text : A → List ℕ) (P : A → Type 0) → ((n : ℕ) (a : A) (rest : List ℕ) → P a → form f n (text a ++ rest) ≡ got a rest) → (xs : List A) (n : ℕ) (rest : List ℕ) → AllByRecursion P xs → forms f (length xs) n (texts text xs ++ rest) ≡ got xs rest
unfolding forms
takes_forms f text P one [] n rest h = refl
takes_forms f text P one (x ∷ xs) n rest h =
    rw (append_assoc (text x) (texts text xs) rest, one n x (texts text xs ++ rest) h.0, takes_forms f text P one xs (suc n) rest h.1)

plant_read : (n : Counts) (rest : List ℕ) → n.nodes ≤ 4294967294 → n.lanes ≤ 4294967294 → n.marks ≤ 4294967294 → form plant_form 1 (plant_line n.nodes n.lanes n.marks ++ rest) ≡ got n rest
unfolding belongs
plant_read n rest ha hb hc =
    rw (plant_spelled n.nodes n.lanes n.marks rest)
    (takes_form plant_form 1 _ _ rest n (scans_triple plant_word n.nodes n.lanes n.marks rest (refl, (refl, (refl, (refl, (refl, tt))))) (omega arith) ha hb hc)
    (sound-triple plant_word _ _ _ ha hb hc) (plant_takes n ha hb hc))

abbrev SmallLane : Lane → Type 0
SmallLane l = (l.tail ≤ 4294967294) × (l.head ≤ 4294967294) × (l.cost ≤ 4294967294)

lane_read : (n : ℕ) (l : Lane) (rest : List ℕ) → SmallLane l → form lane_form n (lane_line l ++ rest) ≡ got l rest
unfolding belongs
lane_read n l rest h =
    rw (lane_spelled l rest)
    (takes_form lane_form n _ _ rest l (scans_triple lane_word l.tail l.head l.cost rest (refl, (refl, (refl, (refl, tt)))) (omega arith) h.0 h.1 h.2)
    (sound-triple lane_word _ _ _ h.0 h.1 h.2) (lane_takes l h.0 h.1 h.2))

mark-read : (nodes n : ℕ) (m : Mark) (rest : List ℕ) → Table nodes m.to × Table nodes m.from → form (mark_form nodes) n (mark_line m ++ rest) ≡ got m rest
mark-read nodes n m rest h =
    rw (mark_spelled m rest)
    (takes_form (mark_form nodes) n _ _ rest m (scans_mark m h.0.1 h.1.1 rest) (sound-mark m h.0.1 h.1.1) (mark_takes nodes m h.0.0 h.0.1 h.1.0 h.1.1))

small_lanes : (nodes prev : ℕ) (ls : List Lane) → nodes ≤ 4096 → EndsFrom nodes prev ls → AllByRecursion (λ (l : Lane). l.cost ≤ 1000000) ls → AllByRecursion SmallLane ls
small_lanes nodes prev [] few h c = tt
small_lanes nodes prev (l ∷ ls) few h c =
    let a = h.0.0 in let b = h.0.1 in let d = c.0 in
    ((omega arith, omega arith, omega arith), small_lanes nodes l.tail ls few h.1 c.1)

passes : (p : Plain) → Lawful p → Passes p
passes p h = record { some_node = h.some_node; few_nodes = h.few_nodes; few_lanes = h.few_lanes; few_marks = h.few_marks; ends = h.ends; cheap = h.cheap; kept = h.kept }

pub written_is_read : (room : Room) (p : Plain) (rest : List ℕ) → Lawful p → has_room room p ≡ true → read room (written p ++ rest) ≡ got p rest
unfolding read lines written
written_is_read room p rest h r =
    let a = h.few_nodes in let b = h.few_lanes in let c = h.few_marks in
    let n : Counts = record { nodes = p.nodes; lanes = length p.lanes; marks = length p.marks } in
    let marks : List ℕ = texts mark_line p.marks in
    let lanes : List ℕ = texts lane_line p.lanes in
    rw (
      append_assoc (plant_line p.nodes (length p.lanes) (length p.marks)) (lanes ++ marks) rest,
      append_assoc lanes marks rest,
      plant_read n (lanes ++ (marks ++ rest)) (omega arith) (omega arith) (omega arith),
      takes_forms lane_form lane_line SmallLane lane_read p.lanes 2 (marks ++ rest) (small_lanes p.nodes 0 p.lanes a h.ends h.cheap),
      takes_forms (mark_form p.nodes) mark_line (λ (m : Mark). Table p.nodes m.to × Table p.nodes m.from) (mark-read p.nodes) p.marks (2 + length p.lanes) rest h.tables,
      passes_none room p r (passes p h),
    )
