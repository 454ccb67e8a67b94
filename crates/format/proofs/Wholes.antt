-- Whole lines that the code takes as a form.
use Rattle.std.proofs.Common.{◌≡◌, List, ℕ, drop, Some, None, Option, Ok, Err, Result, inl, inr}
use Rattle.search.specs.declared.call.Call.{Call}
use Rattle.format.specs.declared.fault.ReadFault.{ReadFault}
use Rattle.format.specs.declared.line.Whole.{Whole}
use Rattle.format.specs.declared.marks.Mark.{Mark as MarkPlace}
use Rattle.format.specs.declared.token.Line.{Line}
use Rattle.format.specs.Checked.{WholeCases, WholeRead}
use Rattle.format.specs.Commands.{command_of, command_line}
use Rattle.format.specs.Faults.{told}
use Rattle.format.specs.Form.{Token}
use Rattle.format.specs.Items.{all, numbers_form, triple, mark_form}
use Rattle.format.specs.Places.{TokensIn}
use Rattle.format.specs.Reads.{NumbersRead, MarkTaken, MarkRead}
use Rattle.format.specs.Turns.{got, lost, form}
use Rattle.format.proofs.CommandLines.{command_lost, command_other, command_got}
use Rattle.format.proofs.Formed.{form_lost, form_other, form_got}
use Rattle.format.proofs.Numbered.{triple_all}
use Rattle.format.proofs.Taking.{mark_none, mark_some}

numbers_by : (w : List ℕ) (l : Line) (post : Option (List ℕ) → Type 0) → (x : Result (Whole (List ℕ)) ReadFault) → WholeCases l post x → ((ts : List Token) (r : Option (List ℕ)) → TokensIn l ts → post r → all (numbers_form 3 w ts) ≡ r) → NumbersRead l.text.now (form (triple w) l.number (drop l.from l.text.now)) x
numbers_by w l post (Ok y) k h = form_got (triple w) l.number (drop l.from l.text.now) (drop y.end l.text.now) k.0 _ k.1 (triple_all w k.0 (Some y.form) (h k.0 (Some y.form) k.2 k.3))
numbers_by w l post (Err f) (inl e) h = form_lost (triple w) l.number (drop l.from l.text.now) _ e
numbers_by w l post (Err f) (inr m) h = rw m.is (form_other (triple w) l.number (drop l.from l.text.now) m.rest m.ts m.line (triple_all w m.ts None (h m.ts None m.here m.none)))

pub numbers_read : (w : List ℕ) (l : Line) (post : Option (List ℕ) → Type 0) → (x : Result (Whole (List ℕ)) ReadFault) → WholeRead l post x → ((ts : List Token) (r : Option (List ℕ)) → TokensIn l ts → post r → all (numbers_form 3 w ts) ≡ r) → NumbersRead l.text.now (form (triple w) l.number (drop l.from l.text.now)) x
numbers_read w l post x k h = numbers_by w l post x k.cases h

mark_by : (n : ℕ) (l : Line) (post : Option MarkPlace → Type 0) → (x : Result (Whole MarkPlace) ReadFault) → WholeCases l post x → ((ts : List Token) (r : Option MarkPlace) → TokensIn l ts → post r → MarkTaken n (all (mark_form n ts)) r) → MarkRead n l.text.now (form (mark_form n) l.number (drop l.from l.text.now)) x
mark_by n l post (Ok y) k h =
    let m = mark_some n (all (mark_form n k.0)) y.form (h k.0 (Some y.form) k.2 k.3) in
    (m.0, form_got (mark_form n) l.number (drop l.from l.text.now) (drop y.end l.text.now) k.0 m.0 k.1 m.1, m.2)
mark_by n l post (Err f) (inl e) h = form_lost (mark_form n) l.number (drop l.from l.text.now) _ e
mark_by n l post (Err f) (inr m) h = rw m.is (form_other (mark_form n) l.number (drop l.from l.text.now) m.rest m.ts m.line (mark_none n (all (mark_form n m.ts)) (h m.ts None m.here m.none)))

pub mark_read : (n : ℕ) (l : Line) (post : Option MarkPlace → Type 0) → (x : Result (Whole MarkPlace) ReadFault) → WholeRead l post x → ((ts : List Token) (r : Option MarkPlace) → TokensIn l ts → post r → MarkTaken n (all (mark_form n ts)) r) → MarkRead n l.text.now (form (mark_form n) l.number (drop l.from l.text.now)) x
mark_read n l post x k h = mark_by n l post x k.cases h

pub command_read : (l : Line) (post : Option Call → Type 0) → (y : Whole Call) → WholeRead l post (Ok y) → ((ts : List Token) (r : Option Call) → TokensIn l ts → post r → command_of ts ≡ r) → command_line l.number (drop l.from l.text.now) ≡ got y.form (drop y.end l.text.now)
command_read l post y k h = let k = k.cases in command_got l.number (drop l.from l.text.now) (drop y.end l.text.now) k.0 _ k.1 (h k.0 (Some y.form) k.2 k.3)

command_by : (l : Line) (post : Option Call → Type 0) → (f : ReadFault) → WholeCases l post (Err f) → ((ts : List Token) (r : Option Call) → TokensIn l ts → post r → command_of ts ≡ r) → command_line l.number (drop l.from l.text.now) ≡ lost (told f)
command_by l post f (inl e) h = command_lost l.number (drop l.from l.text.now) _ e
command_by l post f (inr m) h = rw m.is (command_other l.number (drop l.from l.text.now) m.rest m.ts m.line (h m.ts None m.here m.none))

pub command_refused : (l : Line) (post : Option Call → Type 0) → (f : ReadFault) → WholeRead l post (Err f) → ((ts : List Token) (r : Option Call) → TokensIn l ts → post r → command_of ts ≡ r) → command_line l.number (drop l.from l.text.now) ≡ lost (told f)
command_refused l post f k h = command_by l post f k.cases h
