-- A walk at a place of the text, a byte at a time; and that it is the scan without its tokens.
use Rattle.std.proofs.Common.{◌≡◌, ℕ, suc, ◌+◌, ◌<◌, ◌≤◌, Bool, true, false, cond, eqb, List, [], ◌∷◌, length, get_or, drop, Some, None, Option, sym, refl, ap, ◌∙◌, add-one, drop-cons}
use Rattle.std.proofs.lemmas.List.{drop_all}
use Rattle.format.specs.Form.{Kind, letters, digits, Token, run, Depth, outer, nested, State, begin, need, past, within, ended, Turn, refuse, finish, go, belongs, shut, deeper, leave, enter, after, turn, Scanned, line, unfit, put, scan}
use Rattle.format.specs.declared.phase.Depth.{Depth as Level}
use Rattle.format.specs.declared.phase.Depth.TheVariants.{Outer, Nested}
use Rattle.format.specs.declared.phase.Phase.{Phase}
use Rattle.format.specs.declared.phase.Phase.TheVariants.{Begin, Need, Past, Word, Digits, Ended, Behind}
use Rattle.format.specs.Walk.{phase_shut, phase_deeper, phase_leave, phase_enter, phase_turn, Walked, ends, off, walk}

-- what a phase behind the byte b is, before the bytes t
abbrev moved : ℕ → List ℕ → Option Phase → Walked
moved b t None = off b
moved b t (Some p) = elim p [ Behind ↦ ends t | q ↦ walk q (suc b) t ]

walk_moved : (p : Phase) (b c : ℕ) (t : List ℕ) → walk p b (c ∷ t) ≡ moved b t (phase_turn p c)
unfolding walk
walk_moved p b c t = by (phase_turn p c)
  where
    by : (m : Option Phase) → elim m [ None ↦ off b | Some p' ↦ elim p' [ Behind ↦ ends t | q ↦ walk q (suc b) t ] ] ≡ moved b t m
    by None = refl
    by (Some p') = refl

-- the byte at i
walk_at : (src : List ℕ) (i : ℕ) (p : Phase) (b : ℕ) (m : Option Phase) → i < length src → m ≡ phase_turn p (get_or src i 0) → walk p b (drop i src) ≡ moved b (drop (i + 1) src) m
walk_at src i p b m h e = rw (drop-cons src i 0, add-one) (walk_moved p b (get_or src i 0) (drop (suc i) src) ∙ ap (moved b (drop (suc i) src)) (sym e))

-- it fits nothing
pub walk_off : (src : List ℕ) (i : ℕ) (p : Phase) (b : ℕ) → i < length src → None ≡ phase_turn p (get_or src i 0) → walk p b (drop i src) ≡ off b
walk_off src i p b h e = walk_at src i p b None h e

-- it ends the line
pub walk_end : (src : List ℕ) (i : ℕ) (p : Phase) (b : ℕ) → i < length src → Some Behind ≡ phase_turn p (get_or src i 0) → walk p b (drop i src) ≡ ends (drop (i + 1) src)
walk_end src i p b h e = walk_at src i p b (Some Behind) h e

-- the line goes on
pub walk_on : (src : List ℕ) (i : ℕ) (p q : Phase) (b : ℕ) → i < length src → Some q ≡ phase_turn p (get_or src i 0) → (q ≡ Behind → ⊥) → walk p b (drop i src) ≡ walk q (suc b) (drop (i + 1) src)
walk_on src i p q b h e ne = walk_at src i p b (Some q) h e ∙ by q ne
  where
    by : (q : Phase) → (q ≡ Behind → ⊥) → moved b (drop (i + 1) src) (Some q) ≡ walk q (suc b) (drop (i + 1) src)
    by Begin ne = refl
    by (Need d) ne = refl
    by (Past d) ne = refl
    by (Word d) ne = refl
    by (Digits d) ne = refl
    by Ended ne = refl
    by Behind ne = absurd (ne refl)

-- at the input's end
pub walk_none : (src : List ℕ) (i : ℕ) (p : Phase) (b : ℕ) → length src ≤ i → walk p b (drop i src) ≡ off b
unfolding walk
walk_none src i p b h = rw (drop_all i src h)

-- a state without its run
abbrev level : Depth → Level
level outer = Outer
level nested = Nested

abbrev kind_phase : Kind → Level → Phase
kind_phase letters = Word
kind_phase digits = Digits

abbrev phase : State → Phase
phase begin = Begin
phase (need d) = Need (level d)
phase (past d) = Past (level d)
phase (within d k w) = kind_phase k (level d)
phase ended = Ended

-- a turn without its tokens
abbrev bare : Turn → Option Phase
bare refuse = None
bare finish = Some Behind
bare (go ks s) = Some (phase s)

bare_cond : (b : Bool) (x y : Turn) (u v : Option Phase) → bare x ≡ u → bare y ≡ v → bare (cond b x y) ≡ cond b u v
bare_cond true x y u v p q = p
bare_cond false x y u v p q = q

bare_leave : (d : Depth) (c : ℕ) → bare (leave d c) ≡ phase_leave (level d) c
bare_leave d c = bare_cond (eqb c 32) _ _ _ _ refl (bare_cond (eqb c 41) _ _ _ _ (shuts d) refl)
  where
    shuts : (d : Depth) → Some (phase (shut d)) ≡ Some (phase_shut (level d))
    shuts outer = refl
    shuts nested = refl

bare_enter : (d : Depth) (c : ℕ) → bare (enter d c) ≡ phase_enter (level d) c
bare_enter d c =
    bare_cond (belongs letters c) _ _ _ _ refl (bare_cond (belongs digits c) _ _ _ _ refl
    (bare_cond (eqb c 45) _ _ _ _ refl (bare_cond (eqb c 40) _ _ _ _ (deeps d) refl)))
  where
    deeps : (d : Depth) → bare (deeper d) ≡ phase_deeper (level d)
    deeps outer = refl
    deeps nested = refl

bare_after : (k : Token) (x : Turn) → bare (after k x) ≡ bare x
bare_after k refuse = refl
bare_after k finish = refl
bare_after k (go ks s) = refl

bare_turn : (s : State) (c : ℕ) → bare (turn s c) ≡ phase_turn (phase s) c
bare_turn begin c = bare_cond (eqb c 40) _ _ _ _ refl refl
bare_turn (need d) c = bare_enter d c
bare_turn (past d) c = bare_leave d c
bare_turn (within d letters w) c = bare_cond (belongs letters c) _ _ _ _ refl (bare_after (run letters w) (leave d c) ∙ bare_leave d c)
bare_turn (within d digits w) c = bare_cond (belongs digits c) _ _ _ _ refl (bare_after (run digits w) (leave d c) ∙ bare_leave d c)
bare_turn ended c = bare_cond (eqb c 10) _ _ _ _ refl refl

-- no state is behind the line
walk_phase : (s : State) (b : ℕ) (t : List ℕ) → moved b t (Some (phase s)) ≡ walk (phase s) (suc b) t
walk_phase begin b t = refl
walk_phase (need d) b t = refl
walk_phase (past d) b t = refl
walk_phase (within d letters w) b t = refl
walk_phase (within d digits w) b t = refl
walk_phase ended b t = refl

-- a scan without its tokens
abbrev pub stripped : Scanned → Walked
stripped (line ts rest) = ends rest
stripped (unfit b) = off b

stripped_put : (ks : List Token) (x : Scanned) → stripped (put ks x) ≡ stripped x
stripped_put ks (line ts rest) = refl
stripped_put ks (unfit b) = refl

stripped_scan : (t : List ℕ) (s : State) (b : ℕ) → stripped (scan s b t) ≡ walk (phase s) b t
unfolding scan walk
stripped_scan [] s b = refl
stripped_scan (c ∷ t) s b = by (stripped_scan t) (turn s c) ∙ (ap (moved b t) (bare_turn s c) ∙ sym (walk_moved (phase s) b c t))
  where
    by : ((s : State) (b : ℕ) → stripped (scan s b t) ≡ walk (phase s) b t) → (x : Turn) → stripped (elim x [ refuse ↦ unfit b | finish ↦ line [] t | go ks s' ↦ put ks (scan s' (suc b) t) ]) ≡ moved b t (bare x)
    by ih refuse = refl
    by ih finish = refl
    by ih (go ks s') = stripped_put ks (scan s' (suc b) t) ∙ (ih s' (suc b) ∙ sym (walk_phase s' b t))

-- a line's walk is its scan without the tokens
pub walk_is_scan : (t : List ℕ) → stripped (scan begin 1 t) ≡ walk Begin 1 t
walk_is_scan t = stripped_scan t begin 1
