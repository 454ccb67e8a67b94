-- The rows of the landmarks' tables, one after another.
use Rattle.std.proofs.Common.{◌≡◌, ℕ, zero, suc, ◌+◌, ◌-◌, ◌*◌, ◌<◌, ◌≤◌, List, [], ◌∷◌, ◌++◌, map, length, get_or, take, drop, sym, refl, ap, ◌∙◌, subst, append_assoc, suc-mul, zero-mul, add-one, arith, length-append, length-drop, drop-drop}
use borrow.Rule.Slice.PartMut.{put_mid}
use Rattle.std.proofs.lemmas.List.{append-nil, map-append, take_at, drop_at, take_all, length-take-le}
use Rattle.plants.specs.Index.{joined}
use Rattle.format.specs.declared.marks.Mark.{Mark as MarkPlace}
use Rattle.format.specs.Plain.{Mark, to_row, from_row}
use Rattle.format.specs.Reads.{MarkAt, MarksAt}
use Rattle.format.proofs.Valued.{values_length}

-- a row that was written, as the code's slice has it
pub put-row : (a n : ℕ) (rows ys xs : List ℕ) → ys ≡ xs → put_mid a (a + n - a) rows ys ≡ take a rows ++ (xs ++ drop (a + n) rows)
put-row a n rows ys xs e =
    let k : a + n - a ≡ n = omega arith in
    ap (λ m. take a rows ++ (ys ++ drop m (drop a rows))) k ∙ (ap (λ zs. take a rows ++ (zs ++ drop n (drop a rows))) e ∙ ap (λ zs. take a rows ++ (xs ++ zs)) (drop-drop n a rows))

pub row_long : (a n : ℕ) (rows : List ℕ) → a + n ≤ length rows → length (take (a + n - a) (drop a rows)) ≡ n
row_long a n rows h =
    let k : a + n - a ≡ n = omega arith in
    let d = length-drop a rows in
    ap (λ m. length (take m (drop a rows))) k ∙ length-take-le n (drop a rows) (omega arith)

-- so one at the front
pub front_long : (n : ℕ) (rows : List ℕ) → n ≤ length rows → length (take (n - 0) (drop 0 rows)) ≡ n
front_long n rows h =
    let k : n - 0 ≡ n = omega arith in
    ap (λ m. length (take m rows)) k ∙ length-take-le n rows h

-- the landmarks and their places

pub marks_long : (n : ℕ) (ms : List Mark) (xs : List MarkPlace) → MarksAt n ms xs → length ms ≡ length xs
marks_long n [] [] h = refl
marks_long n [] (x ∷ xs) h = absurd h
marks_long n (m ∷ ms) [] h = absurd h
marks_long n (m ∷ ms) (x ∷ xs) h = ap suc (marks_long n ms xs h.1)

pub record Nth (n : ℕ) (ms : List Mark) (x : MarkPlace) (m : ℕ) : Type 0 where
  pub mark : Mark
  pub next : take (suc m) ms ≡ take m ms ++ (mark ∷ [])
  pub left : drop m ms ≡ mark ∷ drop (suc m) ms
  pub here : MarkAt n mark x

pub marks_nth : (n : ℕ) (ms : List Mark) (xs : List MarkPlace) (d : MarkPlace) (m : ℕ) → MarksAt n ms xs → m < length xs → Nth n ms (get_or xs m d) m
marks_nth n [] [] d m h l = absurd (omega arith)
marks_nth n [] (x ∷ xs) d m h l = absurd h
marks_nth n (k ∷ ms) [] d m h l = absurd h
marks_nth n (k ∷ ms) (x ∷ xs) d zero h l = record { mark = k; next = refl; left = refl; here = h.0 }
marks_nth n (k ∷ ms) (x ∷ xs) d (suc m) h l =
    let r = marks_nth n ms xs d m h.1 (omega arith) in
    record { mark = r.mark; next = ap (λ ns. k ∷ ns) r.next; left = r.left; here = r.here }

-- the same for a number that is equal
pub nth_here : (n n' m : ℕ) (ms : List Mark) (x : MarkPlace) (k : Nth n ms x m) → n' ≡ n → MarkAt n' k.mark x
nth_here n n' m ms x k e = subst (λ i. MarkAt i k.mark x) (sym e) k.here

-- rows of one length
rows_long : (f : Mark → List ℕ) (n : ℕ) → ((k : Mark) (x : MarkPlace) → MarkAt n k x → length (f k) ≡ n) → (ms : List Mark) (xs : List MarkPlace) (m : ℕ) → MarksAt n ms xs → m ≤ length xs → length (joined (map f (take m ms))) ≡ m * n
rows_long f n long ms xs zero h l = sym (zero-mul n)
rows_long f n long [] [] (suc m) h l = absurd (omega arith)
rows_long f n long [] (x ∷ xs) (suc m) h l = absurd h
rows_long f n long (k ∷ ms) [] (suc m) h l = absurd h
rows_long f n long (k ∷ ms) (x ∷ xs) (suc m) h l =
    let a = long k x h.0 in
    let b = rows_long f n long ms xs m h.1 (omega arith) in
    let c = length-append (f k) (joined (map f (take m ms))) in
    let d = suc-mul m n in
    omega arith

to_long : (n : ℕ) (k : Mark) (x : MarkPlace) → MarkAt n k x → length (to_row k) ≡ n
to_long n k x h = values_length n h.0.ts h.0.us k.to h.0.are

from_long : (n : ℕ) (k : Mark) (x : MarkPlace) → MarkAt n k x → length (from_row k) ≡ n
from_long n k x h = values_length n h.1.ts h.1.us k.from h.1.are

joined_push : (xss : List (List ℕ)) (ys : List ℕ) → joined (xss ++ (ys ∷ [])) ≡ joined xss ++ ys
joined_push [] ys = append-nil ys
joined_push (xs ∷ xss) ys = ap (λ zs. xs ++ zs) (joined_push xss ys) ∙ sym (append_assoc xs (joined xss) ys)

-- one more row
table_more : (f : Mark → List ℕ) (n m : ℕ) (ms : List Mark) (k : Mark) (before now now' : List ℕ) → length (joined (map f (take m ms))) ≡ m * n → take (suc m) ms ≡ take m ms ++ (k ∷ []) → now ≡ joined (map f (take m ms)) ++ drop (m * n) before → now' ≡ take (m * n) now ++ (f k ++ drop (m * n + n) now) → now' ≡ joined (map f (take (m + 1) ms)) ++ drop ((m + 1) * n) before
table_more f n m ms k before now now' l t e w =
    let A : List ℕ = joined (map f (take m ms)) in
    let front : take (m * n) now ≡ A = ap (take (m * n)) e ∙ take_at A (drop (m * n) before) (m * n) l in
    let behind : drop (m * n) now ≡ drop (m * n) before = ap (drop (m * n)) e ∙ drop_at A (drop (m * n) before) (m * n) l in
    let rest : drop (m * n + n) now ≡ drop (m * n + n) before = sym (drop-drop n (m * n) now) ∙ (ap (drop n) behind ∙ drop-drop n (m * n) before) in
    let rows : joined (map f (take (m + 1) ms)) ≡ A ++ f k =
    ap (λ i. joined (map f (take i ms))) (add-one m) ∙ (ap (λ ns. joined (map f ns)) t ∙ (ap joined (map-append f (take m ms) (k ∷ [])) ∙ joined_push (map f (take m ms)) (f k))) in
    let next : (m + 1) * n ≡ m * n + n = ap (λ i. i * n) (add-one m) ∙ suc-mul m n in
    w ∙ (ap (λ zs. zs ++ (f k ++ drop (m * n + n) now)) front ∙ (ap (λ zs. A ++ (f k ++ zs)) rest
    ∙ (sym (append_assoc A (f k) (drop (m * n + n) before)) ∙ (ap (λ zs. zs ++ drop (m * n + n) before) (sym rows) ∙ ap (λ i. joined (map f (take (m + 1) ms)) ++ drop i before) (sym next)))))

pub to_more : (n m : ℕ) (ms : List Mark) (xs : List MarkPlace) (x : MarkPlace) (before now now' : List ℕ) (k : Nth n ms x m) → MarksAt n ms xs → m ≤ length xs → now ≡ joined (map to_row (take m ms)) ++ drop (m * n) before → now' ≡ take (m * n) now ++ (to_row k.mark ++ drop (m * n + n) now) → now' ≡ joined (map to_row (take (m + 1) ms)) ++ drop ((m + 1) * n) before
to_more n m ms xs x before now now' k h l e w = table_more to_row n m ms k.mark before now now' (rows_long to_row n (to_long n) ms xs m h l) k.next e w

pub from_more : (n m : ℕ) (ms : List Mark) (xs : List MarkPlace) (x : MarkPlace) (before now now' : List ℕ) (k : Nth n ms x m) → MarksAt n ms xs → m ≤ length xs → now ≡ joined (map from_row (take m ms)) ++ drop (m * n) before → now' ≡ take (m * n) now ++ (from_row k.mark ++ drop (m * n + n) now) → now' ≡ joined (map from_row (take (m + 1) ms)) ++ drop ((m + 1) * n) before
from_more n m ms xs x before now now' k h l e w = table_more from_row n m ms k.mark before now now' (rows_long from_row n (from_long n) ms xs m h l) k.next e w

pub table_none : (f : Mark → List ℕ) (n : ℕ) (ms : List Mark) (before : List ℕ) → before ≡ joined (map f (take 0 ms)) ++ drop (0 * n) before
table_none f n ms before = ap (λ i. drop i before) (sym (zero-mul n))

pub table-all : (f : Mark → List ℕ) (n m : ℕ) (ms : List Mark) (before now : List ℕ) → m ≡ length ms → now ≡ joined (map f (take m ms)) ++ drop (m * n) before → now ≡ joined (map f ms) ++ drop (length ms * n) before
table-all f n m ms before now p e = e ∙ (ap (λ i. joined (map f (take i ms)) ++ drop (i * n) before) p ∙ ap (λ ns. joined (map f ns) ++ drop (length ms * n) before) (take_all (length ms) ms (omega arith)))
