-- A line that is scanned is its tokens, spelled out.
use Rattle.std.proofs.Common.{◌≡◌, ℕ, suc, ◌<◌, Bool, true, false, cond, eqb, List, [], ◌∷◌, ◌++◌, length, sym, refl, ap, ◌∙◌, subst, ap₂, subst₂, append_assoc, arith, length-append}
use Rattle.std.specs.List.{AllByRecursion}
use Rattle.std.proofs.ByRecursion.{All-append}
use Rattle.std.proofs.lemmas.Bool.{eqb-true, cond_both}
use Rattle.format.specs.Form.{Kind, letters, digits, Token, opened, closed, hyphen, run, Depth, outer, nested, State, begin, need, past, within, ended, Turn, refuse, finish, go, belongs, shut, deeper, leave, enter, after, turn, Scanned, line, unfit, put, scan}
use Rattle.format.proofs.Numbers.{Run}

-- behind an item the next stands after a space
abbrev pub space : Bool → List ℕ → List ℕ
space true t = 32 ∷ t
space false t = t

-- the bytes of tokens, before further bytes; the flag says that an item ends before them
abbrev pub spelled : Bool → List Token → List ℕ → List ℕ
spelled f [] e = e
spelled f (opened ∷ ts) e = space f (40 ∷ spelled false ts e)
spelled f (closed ∷ ts) e = 41 ∷ spelled true ts e
spelled f (hyphen ∷ ts) e = space f (45 ∷ spelled true ts e)
spelled f (run k w ∷ ts) e = space f (w ++ spelled true ts e)

abbrev pub Good : Token → Type 0
Good opened = Unit {0}
Good closed = Unit {0}
Good hyphen = Unit {0}
Good (run k w) = Run k w × (0 < length w)

abbrev Holds : State → Type 0
Holds begin = Unit {0}
Holds (need d) = Unit {0}
Holds (past d) = Unit {0}
Holds (within d k w) = Run k w × (0 < length w)
Holds ended = Unit {0}

-- what the bytes from a state on are
abbrev Says : State → List ℕ → List Token → List ℕ → Type 0
Says begin t ts e = t ≡ spelled false ts e
Says (need d) t ts e = (f : Bool) → space f t ≡ spelled f ts e
Says (past d) t ts e = t ≡ spelled true ts e
Says (within d k w) t ts e = (f : Bool) → space f (w ++ t) ≡ spelled f ts e
Says ended t ts e = t ≡ spelled true ts e

-- what a turn keeps
abbrev Fine : State → ℕ → Turn → Type 0
Fine s c refuse = Unit {0}
Fine s c finish = (s ≡ ended) × (c ≡ 10)
Fine s c (go ks s') =
    Holds s' × ((t : List ℕ) (ts : List Token) (e : List ℕ) → Says s' t ts e → AllByRecursion Good ts → Says s (c ∷ t) (ks ++ ts) e × AllByRecursion Good (ks ++ ts))

fine_leave : (d : Depth) (c : ℕ) → Fine (past d) c (leave d c)
fine_leave d c = cond_both (eqb c 32) (go [] (need d)) (cond (eqb c 41) (go (closed ∷ []) (shut d)) refuse) (Fine (past d) c)
    (λ q. (tt, λ t ts e says good. (ap (λ x. x ∷ t) (eqb-true c 32 q) ∙ says true, good)))
    (λ _. cond_both (eqb c 41) (go (closed ∷ []) (shut d)) refuse (Fine (past d) c) (shuts d) (λ _. tt))
  where
    shuts : (d : Depth) → eqb c 41 ≡ true → Fine (past d) c (go (closed ∷ []) (shut d))
    shuts outer q = (tt, λ t ts e says good. (ap₂ ◌∷◌ (eqb-true c 41 q) says, (tt, good)))
    shuts nested q = (tt, λ t ts e says good. (ap₂ ◌∷◌ (eqb-true c 41 q) says, (tt, good)))

fine_after : (d : Depth) (k : Kind) (w : List ℕ) (c : ℕ) → Run k w → 0 < length w → (x : Turn) → Fine (past d) c x → Fine (within d k w) c (after (run k w) x)
fine_after d k w c r some refuse h = tt
fine_after d k w c r some finish h = absurd (let e = h.0 in let z : ◌≡◌ {A = ℕ} 0 1 = cc in omega arith)
fine_after d k w c r some (go ks s') h =
    (h.0, λ t ts e says good. let q = h.1 t ts e says good in (λ f. ap (λ u. space f (w ++ u)) q.0, ((r, some), q.1)))

fine_enter : (d : Depth) (c : ℕ) → Fine (need d) c (enter d c)
fine_enter d c =
    cond_both (belongs letters c) _ _ (Fine (need d) c) (λ q. (((q, tt), omega arith), λ t ts e says good. (says, good)))
    (λ _. cond_both (belongs digits c) _ _ (Fine (need d) c) (λ q. (((q, tt), omega arith), λ t ts e says good. (says, good)))
    (λ _. cond_both (eqb c 45) _ _ (Fine (need d) c)
    (λ q. (tt, λ t ts e says good. (λ f. ap (space f) (ap₂ ◌∷◌ (eqb-true c 45 q) says), (tt, good))))
    (λ _. cond_both (eqb c 40) (deeper d) refuse (Fine (need d) c) (deep d) (λ _. tt))))
  where
    deep : (d : Depth) → eqb c 40 ≡ true → Fine (need d) c (deeper d)
    deep outer q = (tt, λ t ts e says good. (λ f. ap (space f) (ap₂ ◌∷◌ (eqb-true c 40 q) (says false)), (tt, good)))
    deep nested q = tt

fine : (s : State) (c : ℕ) → Holds s → Fine s c (turn s c)
fine begin c h = cond_both (eqb c 40) _ _ (Fine begin c) (λ q. (tt, λ t ts e says good. (ap₂ ◌∷◌ (eqb-true c 40 q) (says false), (tt, good)))) (λ _. tt)
fine (need d) c h = fine_enter d c
fine (past d) c h = fine_leave d c
fine (within d k w) c h = cond_both (belongs k c) _ _ (Fine (within d k w) c)
    (λ q. (
      (All-append _ w (c ∷ []) h.0 (q, tt), rw length-append (omega arith)),
      λ t ts e says good. (λ f. ap (space f) (sym (append_assoc w (c ∷ []) t)) ∙ says f, good),
    ))
    (λ _. fine_after d k w c h.0 h.1 (leave d c) (fine_leave d c))
fine ended c h = cond_both (eqb c 10) _ _ (Fine ended c) (λ q. (refl, eqb-true c 10 q)) (λ _. tt)

-- the bytes of t from a state on are the tokens that are scanned there
abbrev Spelt : List ℕ → Type 0
Spelt t = (s : State) (b : ℕ) (ts : List Token) (rest : List ℕ) → Holds s → scan s b t ≡ line ts rest → Says s t ts (10 ∷ rest) × AllByRecursion Good ts

spelt : (t : List ℕ) → Spelt t
unfolding scan
spelt [] s b ts rest h e = absurd (let z : ◌≡◌ {A = ℕ} 0 1 = cc in omega arith)
spelt (c ∷ t) s b ts rest h e = by_turn (spelt t) (turn s c) (fine s c h) e
  where
    Goal : List Token → List ℕ → Type 0
    Goal ts rest = Says s (c ∷ t) ts (10 ∷ rest) × AllByRecursion Good ts

    by_scan : (ks : List Token) (s' : State) → Fine s c (go ks s') → Spelt t → (x : Scanned) → scan s' (suc b) t ≡ x → put ks x ≡ line ts rest → Goal ts rest
    by_scan ks s' f ih (line us r) q e =
        let i = ih s' (suc b) us r f.0 q in
        subst₂ Goal (cc) (cc) (f.1 t us (10 ∷ r) i.0 i.1)
    by_scan ks s' f ih (unfit n) q e = absurd (let z : ◌≡◌ {A = ℕ} 0 1 = cc in omega arith)

    by_turn : Spelt t → (x : Turn) → Fine s c x → elim x [ refuse ↦ unfit b | finish ↦ line [] t | go ks s' ↦ put ks (scan s' (suc b) t) ] ≡ line ts rest → Goal ts rest
    by_turn ih refuse f e = absurd (let z : ◌≡◌ {A = ℕ} 0 1 = cc in omega arith)
    by_turn ih finish f e =
        subst₂ Goal (cc) (cc) (subst (λ s. Says s (c ∷ t) [] (10 ∷ t)) (sym f.0) (ap (λ x. x ∷ t) f.1), tt)
    by_turn ih (go ks s') f e = by_scan ks s' f ih (scan s' (suc b) t) refl e

-- a line that is scanned is its tokens, spelled out, and its runs are of their kind
pub scanned_only : (t : List ℕ) (ts : List Token) (rest : List ℕ) → scan begin 1 t ≡ line ts rest → (t ≡ spelled false ts (10 ∷ rest)) × AllByRecursion Good ts
scanned_only t ts rest e = spelt t begin 1 ts rest tt e
