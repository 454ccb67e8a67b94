-- From what a search or a shift answers to what its call is made as.
use Rattle.std.proofs.Common.{◌≡◌, ℕ, ◌-◌, ◌≤◌, Bool, true, false, cond, leb, List, [], ◌++◌, length, take, drop, Some, None, Option, Ok, Err, sym, refl, ap, ◌∙◌, subst, append-nil, arith, length-append, length-drop, drop_of_length-le}
use borrow.Rule.Slice.PartMut.{put_mid}
use Rattle.std.proofs.lemmas.Slice.{between_to_end}
use Rattle.std.specs.Option.{option_or}
use Rattle.std.specs.Result.{IsErrAnd}
use Rattle.std.proofs.lemmas.Result.{err_from_is_err_and}
use Rattle.cost.specs.Kind.{Kind}
use Rattle.plant.specs.declared.layers.shift.ShiftFault.{ShiftFault}
use Rattle.plant.specs.Floor.{Floor}
use Rattle.plant.specs.Closed.{among, shut}
use Rattle.plant.specs.Shifted.{close_fault, reopen_fault}
use Rattle.plant.specs.LayerFacts.{length-shut}
use Rattle.search.specs.declared.answer.Answer.{Answer}
use Rattle.search.specs.declared.answer.Both.{Both}
use Rattle.search.specs.declared.answer.Counts.{Counts}
use Rattle.search.specs.declared.call.Call.{Call}
use Rattle.search.specs.declared.call.Call.TheVariants.{Close, Reopen, One, Two}
use Rattle.search.specs.declared.fault.SearchFault.{SearchFault}
use Rattle.search.specs.declared.fault.SearchFault.TheVariants.{Start, Goal, Rows, Queue, Route as ShortRoute}
use Rattle.search.specs.declared.reply.CallFault.{CallFault}
use Rattle.search.specs.declared.reply.CallFault.TheVariants.{Search}
use Rattle.search.specs.declared.reply.Done.TheVariants.{Closed, Reopened, Searched as Told}
use Rattle.search.specs.declared.row.Row.{Row}
use Rattle.search.specs.Lists.{onto, onto_at}
use Rattle.search.specs.Steps.{count_scanned}
use Rattle.search.specs.OneWay.{one_way, one_route}
use Rattle.search.specs.TwoWay.{two_way, two_route}
use Rattle.search.specs.Faults.{node_fault, room_fault, search_fault}
use Rattle.search.specs.Searched.{answer_of, count_told, fault_of, one_answer}
use Rattle.search.specs.SearchedBoth.{both_scanned, two_fault, two_answer}
use Rattle.search.specs.Calls.{Reply, nodes_told, Areas}
use Rattle.search.specs.Life.{counts_of, too_short}
use Rattle.search.proofs.FaultFacts.{room_in, both_none}
use Rattle.search.specs.Served.{Made, plain, unless_shift, unless_search, answer, made, Makes}

-- how long a list is from `at` on
pub length_left : (at : ℕ) (xs : List ℕ) → length (take (length xs - at) (drop at xs)) ≡ length xs - at
length_left at xs = ap length (between_to_end xs at (length xs) (omega arith)) ∙ length-drop at xs

-- a write to the end of a list, from `at` on
put_end : (at : ℕ) (old part nodes : List ℕ) → part ≡ onto nodes (take (length old - at) (drop at old)) → put_mid at (length old - at) old part ≡ onto_at at nodes old
put_end at old part nodes e =
    let whole : take (length old - at) (drop at old) ≡ drop at old = between_to_end old at (length old) (omega arith) in
    let none : drop (length old - at) (drop at old) ≡ [] = drop_of_length-le (drop at old) (omega (arith, length-drop at old)) in
    (λ i. take at old ++ ((e ∙ ap (onto nodes) whole) i ++ none i)) ∙ ap (λ (xs : List ℕ). take at old ++ xs) (append-nil (onto nodes (drop at old)))

-- what was written over a list without making it longer is no longer than it
fits_onto : (nodes part : List ℕ) → length (onto nodes part) ≡ length part → length nodes ≤ length part
fits_onto nodes part e = let a = length-append nodes (drop (length nodes) part) in omega arith

-- a reply that refuses for x
pub refused : {C : Type 0} (r : Reply C) (x : CallFault) → IsErrAnd r (λ y. y ≡ x) → r ≡ Err x
refused r x h = let (y, is, same) = err_from_is_err_and r h in is ∙ ap Err same

module _ {C : Type 0} (at : ℕ) (rows rows' back back' : List (Row C)) (routes : List ℕ) (le : at ≤ length routes) where
  -- a search, whose route is written into the part of the list that is left
  module _ (fault : Option SearchFault) (m : Made C) (part : List ℕ) where
    abbrev Left : List ℕ
    Left = take (length routes - at) (drop at routes)

    abbrev After : List ℕ
    After = put_mid at (length routes - at) routes part

    pub search_accepts : (r : Reply C) → None ≡ fault → r ≡ m.reply → rows' ≡ onto m.near rows → back' ≡ onto m.far back → part ≡ onto m.nodes Left → length part ≡ length Left → Makes (unless_search fault m) at r rows rows' back back' routes After
    search_accepts r e q near far w long =
        let whole : Left ≡ drop at routes = between_to_end routes at (length routes) (omega arith) in
        let few = fits_onto m.nodes Left (sym (ap length w) ∙ long) in
        let made_so : Makes m at r rows rows' back back' routes After = record { reply_is = q; rows_are = near; back_are = far; routes_are = put_end at routes part m.nodes w; fits = omega (arith, few, ap length whole, length-drop at routes, le) } in
        subst (λ (z : Option SearchFault). Makes (unless_search z m) at r rows rows' back back' routes After) e made_so

    pub search_refuses : (x : SearchFault) → Some x ≡ fault → (q : Reply C) → IsErrAnd q (λ y. y ≡ Search x) → rows' ≡ rows → back' ≡ back → part ≡ Left → Makes (unless_search fault m) at q rows rows' back back' routes After
    search_refuses x e q is near far w =
        let made_so : Makes (plain (Err (Search x))) at q rows rows' back back' routes After = record { reply_is = refused q (Search x) is; rows_are = near; back_are = far; routes_are = put_end at routes part [] w; fits = omega arith } in
        subst (λ (z : Option SearchFault). Makes (unless_search z m) at q rows rows' back back' routes After) e made_so

-- a search that is not refused has rows enough
unrefused : {C : Type 0} (f : Floor C) (s t : ℕ) (short : Option SearchFault) → None ≡ search_fault f s t short → None ≡ short
unrefused f s t short e = (both_none (node_fault f t (Goal t)) short (both_none (node_fault f s (Start s)) (option_or (node_fault f t (Goal t)) short) e).1).1

pub enough_rows : {C : Type 0} (f : Floor C) (s t n : ℕ) (more : Option SearchFault) → None ≡ search_fault f s t (option_or (room_fault f n Rows) more) → f.nodes ≤ n
enough_rows f s t n more e = let rows = room_fault f n Rows in room_in f n Rows (both_none rows more (unrefused f s t (option_or rows more) e)).0

pub enough_back : {C : Type 0} (f : Floor C) (s t n b : ℕ) (more : Option SearchFault) → None ≡ search_fault f s t (option_or (room_fault f n Rows) (option_or (room_fault f b Rows) more)) → f.nodes ≤ b
enough_back f s t n b more e =
    let rows = room_fault f n Rows in
    let back = option_or (room_fault f b Rows) more in
    room_in f b Rows (both_none (room_fault f b Rows) more (both_none rows back (unrefused f s t (option_or rows back) e)).1).0

module _ {C : Type 0} (k : Kind C) (f : Floor C) (closed : List ℕ) (s t : ℕ) where
  abbrev F : Floor C
  F = shut k (among closed) f

  pub one_fault : (a : Areas) (left p : ℕ) → p ≡ left → fault_of F s t a.rows a.entries p ≡ search_fault f s t (too_short f a left (One s t))
  one_fault a left p e =
      let long = length-shut k.beyond (among closed) f.lanes in
      λ i. search_fault f s t (option_or (room_fault f a.rows Rows) (option_or (cond (leb a.entries (long i)) (Some Queue) None) (room_fault f (e i) ShortRoute)))

  pub two_fault_is : (a : Areas) (left p : ℕ) → p ≡ left → two_fault F s t a.rows a.back_rows a.entries a.back_entries p ≡ search_fault f s t (too_short f a left (Two s t))
  two_fault_is a left p e =
      let long = length-shut k.beyond (among closed) f.lanes in
      λ i. search_fault f s t (option_or (room_fault f a.rows Rows) (option_or (room_fault f a.back_rows Rows) (option_or (cond (leb a.entries (long i)) (Some Queue) None) (option_or (cond (leb a.back_entries (long i)) (Some Queue) None) (room_fault f (e i) ShortRoute)))))

  -- an answer with its counts told is the reply
  replied : {N : Type 0} (call : Call) (n : N) (c : C) (nodes : List ℕ) (at : ℕ) (told : N → Counts) → told n ≡ counts_of k F call → (a : Answer C N) (r : Answer C Counts) → a ≡ answer_of k n c nodes → r.scanned ≡ told a.scanned → r.route ≡ a.route
      → Ok (Told r at) ≡ (answer k F at call c nodes).reply
  replied {N} call n c nodes at told counts a r e p q =
      λ i. Ok (Told (record { scanned = (p ∙ ap (λ (x : Answer C N). told x.scanned) e ∙ counts) i; route = (q ∙ ap (λ (x : Answer C N). x.route) e) i }) at)

  pub one_replied : (at : ℕ) (a : Answer C ℕ) (r : Answer C Counts) → a ≡ one_answer k F s t → r.scanned ≡ record { forward = a.scanned; back = None } → r.route ≡ a.route → Ok (Told r at) ≡ (answer k F at (One s t) (one_way k F s t).cost (one_route k F s t)).reply
  one_replied at = replied (One s t) (count_scanned (one_way k F s t).rows) (one_way k F s t).cost (one_route k F s t) at (λ n. record { forward = n; back = None }) refl

  pub two_replied : (at : ℕ) (a : Answer C Both) (r : Answer C Counts) → a ≡ two_answer k F s t → r.scanned ≡ record { forward = a.scanned.forward; back = Some a.scanned.back } → r.route ≡ a.route → Ok (Told r at) ≡ (answer k F at (Two s t) (two_way k F s t).met.cost (two_route k F s t)).reply
  two_replied at = replied (Two s t) (both_scanned k F s t) (two_way k F s t).met.cost (two_route k F s t) at (λ n. record { forward = n.forward; back = Some n.back }) refl

module _ {C : Type 0} (k : Kind C) (F : Floor C) (at : ℕ) (call : Call) (c : C) (nodes : List ℕ) where
  search_told : (fault : Option SearchFault) → nodes_told (unless_search fault (answer k F at call c nodes)).reply ≡ length (unless_search fault (answer k F at call c nodes)).nodes
  search_told (Some x) = refl
  search_told None = go (k.at_most k.beyond c)
    where
      go : (b : Bool) → count_told {C = C} (cond b None (Some (record { cost = c; nodes = length nodes }))) ≡ length (cond b [] nodes)
      go true = refl
      go false = refl

shift_told : {C : Type 0} (fault : Option ShiftFault) (r : Reply C) → nodes_told r ≡ 0 → nodes_told (unless_shift fault (plain r)).reply ≡ length (unless_shift fault (plain r)).nodes
shift_told (Some x) r e = refl
shift_told None r e = e

-- a reply tells as many nodes as are written for it
pub made_told : {C : Type 0} (k : Kind C) (f : Floor C) (a : Areas) (closed : List ℕ) (at : ℕ) (call : Call) → nodes_told (made k f a closed at call).reply ≡ length (made k f a closed at call).nodes
made_told k f a closed at (Close n) = shift_told (close_fault (length f.lanes) closed n) (Ok (Closed n)) refl
made_told k f a closed at (Reopen n) = shift_told (reopen_fault (length f.lanes) closed n) (Ok (Reopened n)) refl
made_told k f a closed at (One s t) = let F = shut k (among closed) f in search_told k F at (One s t) (one_way k F s t).cost (one_route k F s t) (search_fault f s t (too_short f a (a.places - at) (One s t)))
made_told k f a closed at (Two s t) = let F = shut k (among closed) f in search_told k F at (Two s t) (two_way k F s t).met.cost (two_route k F s t) (search_fault f s t (too_short f a (a.places - at) (Two s t)))
