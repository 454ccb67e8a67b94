-- The two parts of a two-way route, one written after the other.
use Rattle.std.proofs.Common.{◌≡◌, ℕ, suc, ◌+◌, ◌-◌, ◌<◌, ◌≤◌, List, [], ◌∷◌, ◌++◌, reverse, length, take, drop, sym, ap, ◌∙◌, arith, length-append, length-drop, take_all}
use borrow.Rule.Slice.PartMut.{put_mid}
use lib.Seq.{take-append_seam, take-append-add, drop-append-add}
use Rattle.std.proofs.lemmas.List.{append-nil, drop_all, drop-drop, length-reverse, length-take-le, reverse-append, reverse-reverse, take-take}
use Rattle.cost.specs.Kind.{Kind}
use Rattle.plant.specs.Floor.{Floor, turned}
use Rattle.search.specs.declared.row.Row.{Row}
use Rattle.search.specs.Lists.{onto}
use Rattle.search.specs.Steps.{trace}
use Rattle.search.specs.TwoWay.{joined}
use Rattle.search.proofs.AnswerFacts.{written}
use Rattle.search.proofs.TraceFacts.{trace_front, trace_parts}

-- a trace of at least one step, by its nodes before the last
module _ {C : Type 0} (k : Kind C) (f : Floor C) (start : ℕ) (rows : List (Row C)) (n v : ℕ) (some : 0 < n) where
  pub before : List ℕ
  before = trace_front k f start rows (n - 1) v

  pub trace_last : (after : List ℕ) → trace k f start rows n v after ≡ before ++ v ∷ after
  unfolding before
  trace_last after = let fuel : n ≡ suc (n - 1) = omega arith in ap (λ (m : ℕ). trace k f start rows m v after) fuel ∙ trace_parts k f start rows (n - 1) v after

  pub trace_back : reverse (trace k f start rows n v []) ≡ v ∷ reverse before
  trace_back = ap reverse (trace_last []) ∙ reverse-append before (v ∷ [])

module _ {C : Type 0} (k : Kind C) (f : Floor C) (start goal : ℕ) (rows back : List (Row C)) (via : ℕ) (some : 0 < f.nodes) where
  abbrev Back : List ℕ
  Back = trace k (turned f) goal back f.nodes via []

  -- the second part begins where the first ends
  pub joined_parts : joined k f start goal rows back via ≡ before k f start rows f.nodes via some ++ reverse Back
  joined_parts =
      let b = trace_back k (turned f) goal back f.nodes via some in
      trace_last k f start rows f.nodes via some (drop 1 (reverse Back))
      ∙ ap (λ (xs : List ℕ). before k f start rows f.nodes via some ++ xs) (ap (λ (xs : List ℕ). via ∷ drop 1 xs) b ∙ sym b)

  pub joined_length : length (joined k f start goal rows back via) ≡ length (before k f start rows f.nodes via some) + length Back
  joined_length = ap length joined_parts ∙ length-append (before k f start rows f.nodes via some) (reverse Back) ∙ ap (λ (m : ℕ). length (before k f start rows f.nodes via some) + m) (length-reverse Back)

-- after n nodes that end with v, the list from v on is written over
module _ (n more : ℕ) (xs ys old front second : List ℕ) (v : ℕ) where
  pub first_count : n ≤ length xs → take n xs ≡ front ++ v ∷ [] → n ≡ length front + 1
  first_count h e = sym (length-take-le n xs h) ∙ ap length e ∙ length-append front (v ∷ [])

  module _ (h : n ≤ length xs) (e : take n xs ≡ front ++ v ∷ []) (rest : drop n xs ≡ drop n old) (long : length ys ≡ length xs - (n - 1)) (fits : more ≤ length ys) (back : reverse (take more ys) ≡ second) (some : 0 < more) (kept : drop more ys ≡ drop more (take (length xs - (n - 1)) (drop (n - 1) xs))) where
    a_is : n - 1 ≡ length front
    a_is = let c = first_count h e in omega arith

    front_is : take (n - 1) xs ≡ front
    front_is = sym (take-take (n - 1) n xs (omega arith)) ∙ ap (take (n - 1)) e ∙ ap (λ (m : ℕ). take m (front ++ v ∷ [])) a_is ∙ take-append_seam front (v ∷ [])

    whole_is : put_mid (n - 1) (length xs - (n - 1)) xs ys ≡ front ++ ys
    whole_is =
        let none : drop (length xs - (n - 1)) (drop (n - 1) xs) ≡ [] = drop_all (length xs - (n - 1)) (drop (n - 1) xs) (omega (arith, length-drop (n - 1) xs)) in
        (λ i. front_is i ++ (ys ++ none i)) ∙ ap (λ (zs : List ℕ). front ++ zs) (append-nil ys)

    second_is : take more ys ≡ reverse second
    second_is = sym (reverse-reverse (take more ys)) ∙ ap reverse back

    tail_is : drop more ys ≡ drop (length front + more) old
    tail_is =
        let c = first_count h e in
        let all : take (length xs - (n - 1)) (drop (n - 1) xs) ≡ drop (n - 1) xs = take_all (length xs - (n - 1)) (drop (n - 1) xs) (omega (arith, length-drop (n - 1) xs)) in
        let q : n - 1 + more ≡ n + (more - 1) = omega (arith, c) in
        let p : n + (more - 1) ≡ length front + more = omega (arith, c) in
        kept ∙ ap (drop more) all ∙ drop-drop more (n - 1) xs ∙ ap (λ (m : ℕ). drop m xs) q ∙ sym (drop-drop (more - 1) n xs) ∙ ap (drop (more - 1)) rest ∙ drop-drop (more - 1) n old ∙ ap (λ (m : ℕ). drop m old) p

    pub both_written : (n - 1 + more ≡ length (front ++ reverse second)) × (put_mid (n - 1) (length xs - (n - 1)) xs ys ≡ onto (front ++ reverse second) old)
    both_written =
        let w = written (length front + more) (front ++ ys) old (front ++ reverse second) (omega (arith, length-append front ys, fits))
        (take-append-add front ys more ∙ ap (λ (zs : List ℕ). front ++ zs) second_is)
        (drop-append-add front ys more ∙ tail_is) in
        (ap (λ (m : ℕ). m + more) a_is ∙ w.0, whole_is ∙ w.1)
