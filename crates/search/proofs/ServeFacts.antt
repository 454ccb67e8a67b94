-- Calls in turn: what has been replied and written, and what the calls that are left will add to it.
use Rattle.std.proofs.Common.{◌≡◌, ℕ, ◌+◌, ◌<◌, ◌≤◌, List, [], ◌∷◌, ◌++◌, length, take, drop, set, sym, ap, ◌∙◌, subst, append_assoc, append-nil, arith, drop_of_length-le}
use lib.Seq.{take-append-add, drop-append-add, take-append_seam, drop-append_seam}
use Rattle.std.proofs.lemmas.List.{drop-drop, drop-set-lt, length-take-le, take_more_set}
use Rattle.cost.specs.Kind.{Kind}
use Rattle.plant.specs.Floor.{Floor}
use Rattle.search.specs.declared.call.Call.{Call}
use Rattle.search.specs.declared.row.Row.{Row}
use Rattle.search.specs.Lists.{onto}
use Rattle.search.specs.Calls.{Reply, nodes_told, Areas, areas}
use Rattle.search.specs.Lent.{lengths, SameLent}
use Rattle.search.specs.declared.areas.Areas.{Areas as Lent}
use Rattle.search.specs.Served.{Made, Makes, made, closed_after, then_served, Served, served_from}
use Rattle.search.specs.Serving.{Serving}
use Rattle.search.proofs.AnswerFacts.{written}
use Rattle.search.proofs.MadeFacts.{made_told}

-- the same areas are as long, and are the same after another call
module _ {C : Type 0} (a b : Lent C) (h : SameLent a b) where
  pub lengths_same : lengths b ≡ lengths a
  lengths_same = let (_, _, _, _, _, r, r', q, q', p) = h in λ i. areas (r i) (q i) (r' i) (q' i) (p i)

  pub routes_long : length b.routes.now ≡ length a.routes.now
  routes_long = let (_, _, _, _, _, _, _, _, _, p) = h in p

  pub same_after : (d : Lent C) → SameLent b d → SameLent a d
  same_after d s =
      let (r, r', q, q', p, m, m', n, n', l) = h in
      let (t, t', u, u', v, w, w', x, x', y) = s in (t ∙ r, t' ∙ r', u ∙ q, u' ∙ q', v ∙ p, w ∙ m, w' ∙ m', x ∙ n, x' ∙ n', y ∙ l)

-- the same call, by another name of the floor and of the areas
pub made-same : {C : Type 0} (k : Kind C) {f g : Floor C} {a b : Areas} (closed : List ℕ) (at : ℕ) (c : Call) {r : Reply C} {rows rows' back back' : List (Row C)} {routes routes' : List ℕ} → f ≡ g → a ≡ b →
    Makes (made k f a closed at c) at r rows rows' back back' routes routes' → Makes (made k g b closed at c) at r rows rows' back back' routes routes'
made-same {C} k {f} {g} {a} {b} closed at c {r} {rows} {rows'} {back} {back'} {routes} {routes'} e d m =
    subst (λ (x : Areas). Makes (made k g x closed at c) at r rows rows' back back' routes routes') d (subst (λ (x : Floor C). Makes (made k x a closed at c) at r rows rows' back back' routes routes') e m)

module _ {C : Type 0} {k : Kind C} {f : Floor C} {a : Areas} {calls : List Call} {closed₀ : List ℕ} {replies₀ : List (Reply C)} {routes₀ : List ℕ} {rows₀ back₀ : List (Row C)} where
  module _ {i at : ℕ} {closed : List ℕ} {replies : List (Reply C)} {routes : List ℕ} {rows back : List (Row C)} (h : Serving k f a calls closed₀ replies₀ routes₀ rows₀ back₀ i at closed replies routes rows back) where
    -- one more call
    module _ (c : Call) (next : drop i calls ≡ c ∷ drop (i + 1) calls) {r : Reply C} {closed' : List ℕ} {routes' : List ℕ} {rows' back' : List (Row C)}
        (m : Makes (made k f a closed at c) at r rows rows' back back' routes routes') (after : closed' ≡ closed_after closed r) {n : ℕ} (counts : n ≡ nodes_told r) where
      abbrev M : Made C
      M = made k f a closed at c

      long : at + n ≡ at + length M.nodes
      long = ap (λ x. at + x) (counts ∙ ap nodes_told m.reply_is ∙ made_told k f a closed at c)

      whole : served_from k f a closed at (drop i calls) ≡ then_served M (served_from k f a closed' (at + n) (drop (i + 1) calls))
      whole =
          ap (served_from k f a closed at) next
          ∙ (λ j. then_served M (served_from k f a (sym (after ∙ ap (closed_after closed) m.reply_is) j) (sym long j) (drop (i + 1) calls)))

      kept : length (take at routes) ≡ at
      kept = length-take-le at routes h.fits

      pub serving_more : i < length replies → length routes' ≡ length routes → Serving k f a calls closed₀ replies₀ routes₀ rows₀ back₀ (i + 1) (at + n) closed' (set replies i r) routes' rows' back'
      serving_more lt same = record {
        told =
            ap (λ (xs : List (Reply C)). xs ++ S.replies) (take_more_set replies i r lt)
            ∙ append_assoc (take i replies) (r ∷ []) S.replies
            ∙ ap (λ x. take i replies ++ (x ∷ S.replies)) m.reply_is
            ∙ ap (λ (x : Served C). take i replies ++ x.replies) (sym whole) ∙ h.told;
        replies_past =
            drop-set-lt (i + 1) replies i r (omega arith)
            ∙ sym (drop-drop 1 i replies) ∙ ap (drop 1) h.replies_past ∙ drop-drop 1 i replies₀;
        wrote =
            ap (λ (xs : List ℕ). xs ++ S.routes) wrote_more
            ∙ append_assoc (take at routes) M.nodes S.routes
            ∙ ap (λ (x : Served C). take at routes ++ x.routes) (sym whole) ∙ h.wrote;
        routes_past = past_more;
        closes = ap (λ (x : Served C). x.closed) (sym whole) ∙ h.closes;
        nears = ap S.near m.rows_are ∙ ap (λ (x : Served C). x.near rows) (sym whole) ∙ h.nears;
        fars = ap S.far m.back_are ∙ ap (λ (x : Served C). x.far back) (sym whole) ∙ h.fars;
        fits = omega (arith, long, m.fits, same);
      }
        where
          S : Served C
          S = served_from k f a closed' (at + n) (drop (i + 1) calls)

          place : at + n ≡ length (take at routes) + length M.nodes
          place = long ∙ ap (λ x. x + length M.nodes) (sym kept)

          wrote_more : take (at + n) routes' ≡ take at routes ++ M.nodes
          wrote_more =
              (λ j. take (place j) (m.routes_are j))
              ∙ take-append-add (take at routes) (onto M.nodes (drop at routes)) (length M.nodes)
              ∙ ap (λ (xs : List ℕ). take at routes ++ xs) (take-append_seam M.nodes (drop (length M.nodes) (drop at routes)))

          past_more : drop (at + n) routes' ≡ drop (at + n) routes₀
          past_more =
              (λ j. drop (place j) (m.routes_are j))
              ∙ drop-append-add (take at routes) (onto M.nodes (drop at routes)) (length M.nodes)
              ∙ drop-append_seam M.nodes (drop (length M.nodes) (drop at routes))
              ∙ ap (drop (length M.nodes)) h.routes_past
              ∙ drop-drop (length M.nodes) at routes₀
              ∙ ap (λ x. drop x routes₀) (sym long)

    -- all calls
    module _ (all : length calls ≤ i) where
      none : served_from k f a closed at (drop i calls) ≡ served_from k f a closed at []
      none = ap (served_from k f a closed at) (drop_of_length-le calls all)

      abbrev T : Served C
      T = served_from k f a closed₀ 0 calls

      pub all_replies : i ≤ length replies → replies ≡ onto T.replies replies₀
      all_replies le = (written i replies replies₀ T.replies le (sym (append-nil (take i replies)) ∙ ap (λ (x : Served C). take i replies ++ x.replies) (sym none) ∙ h.told) h.replies_past).1

      pub all_routes : routes ≡ onto T.routes routes₀
      all_routes = (written at routes routes₀ T.routes h.fits (sym (append-nil (take at routes)) ∙ ap (λ (x : Served C). take at routes ++ x.routes) (sym none) ∙ h.wrote) h.routes_past).1

      pub all_closed : closed ≡ T.closed
      all_closed = ap (λ (x : Served C). x.closed) (sym none) ∙ h.closes

      pub all_near : rows ≡ T.near rows₀
      all_near = ap (λ (x : Served C). x.near rows) (sym none) ∙ h.nears

      pub all_far : back ≡ T.far back₀
      all_far = ap (λ (x : Served C). x.far back) (sym none) ∙ h.fars
