-- Slots: numbers, each of which stands in a list or not.
use Rattle.std.proofs.Common.{◌≡◌, ℕ, zero, suc, ◌+◌, ◌-◌, ◌<◌, ◌≤◌, Bool, true, false, not, List, [], ◌∷◌, length, Some, None, sym, refl, ap, ◌∙◌, inl, inr, arith}
use mir.Val.{bool_byte}
use Rattle.std.specs.List.{slice_get}
use Rattle.std.proofs.lemmas.Option.{slice_get_past}
use Rattle.std.proofs.lemmas.Bool.{false≢true}
use Rattle.plants.specs.Picked.{Among, Listed}

pub record Slot : Type 0 where
  pub filled : Bool
  pub number : ℕ

abbrev pub slot : Bool → ℕ → Slot
slot b k = record { filled = b; number = k }

abbrev put : Bool → ℕ → List ℕ → List ℕ
put true k ks = k ∷ ks
put false k ks = ks

-- the numbers of the slots that are filled
abbrev pub kept : List Slot → List ℕ
kept [] = []
kept (s ∷ ss) = put s.filled s.number (kept ss)

-- 1 or 0, as a cast has it
abbrev pub one_if : Bool → ℕ
one_if b = bool_byte b

-- how many of the first n slots are filled
abbrev pub before : ℕ → List Slot → ℕ
before zero ss = 0
before (suc n) [] = 0
before (suc n) (s ∷ ss) = one_if s.filled + before n ss

pub one_if_not : (b : Bool) → one_if b + one_if (not b) ≡ 1
one_if_not true = refl
one_if_not false = refl

first_of : (b : Bool) (k : ℕ) (ks : List ℕ) (j : ℕ) → j < one_if b → slice_get (put b k ks) j ≡ Some k
first_of true k ks j lt = let e : j ≡ 0 = omega arith in ap (slice_get (k ∷ ks)) e
first_of false k ks j lt = absurd (omega arith)

past_first : (b : Bool) (k : ℕ) (ks : List ℕ) (j : ℕ) → one_if b ≤ j → slice_get (put b k ks) j ≡ slice_get ks (j - one_if b)
past_first true k ks j le = let e : j ≡ suc (j - 1) = omega arith in ap (slice_get (k ∷ ks)) e
past_first false k ks j le = let e : j ≡ j - 0 = omega arith in ap (slice_get ks) e

-- a filled slot's number stands after those of the filled slots before it
pub slot_at : (n j : ℕ) (ss : List Slot) (s : Slot) → slice_get ss n ≡ Some s → before n ss ≤ j → j < before (suc n) ss → slice_get (kept ss) j ≡ Some s.number
slot_at n j [] s e low high = let z : ◌≡◌ {A = ℕ} 0 1 = cc in absurd (omega arith)
slot_at zero j (t ∷ ss) s e low high =
    let same : t ≡ s = cc in first_of t.filled t.number (kept ss) j (omega arith) ∙ ap (λ (x : Slot). Some x.number) same
slot_at (suc n) j (t ∷ ss) s e low high =
    past_first t.filled t.number (kept ss) j (omega arith) ∙ slot_at n (j - one_if t.filled) ss s e (omega arith) (omega arith)

put-length : (b : Bool) (k : ℕ) (ks : List ℕ) → length (put b k ks) ≡ one_if b + length ks
put-length true k ks = omega arith
put-length false k ks = omega arith

kept_length : (ss : List Slot) → length (kept ss) ≡ before (length ss) ss
kept_length [] = refl
kept_length (s ∷ ss) = put-length s.filled s.number (kept ss) ∙ ap (λ n. one_if s.filled + n) (kept_length ss)

pub slots_past : (j : ℕ) (ss : List Slot) → before (length ss) ss ≤ j → slice_get (kept ss) j ≡ None
slots_past j ss le = slice_get_past (kept ss) j (omega (arith, kept_length ss))

among_first : (b : Bool) (k i : ℕ) (ks : List ℕ) → b ≡ true → i ≡ k → Among i (put b k ks)
among_first true k i ks f e = inl e
among_first false k i ks f e = absurd (false≢true f)

among_later : (b : Bool) (k i : ℕ) (ks : List ℕ) → Among i ks → Among i (put b k ks)
among_later true k i ks later = inr later
among_later false k i ks later = later

pub among_slots : (n i : ℕ) (ss : List Slot) (s : Slot) → slice_get ss n ≡ Some s → s.filled ≡ true → i ≡ s.number → Among i (kept ss)
among_slots n i [] s e f is = let z : ◌≡◌ {A = ℕ} 0 1 = cc in absurd (omega arith)
among_slots zero i (t ∷ ss) s e f is =
    let same : t ≡ s = cc in
    among_first t.filled t.number i (kept ss) (ap (λ (x : Slot). x.filled) same ∙ f) (is ∙ sym (ap (λ (x : Slot). x.number) same))
among_slots (suc n) i (t ∷ ss) s e f is = among_later t.filled t.number i (kept ss) (among_slots n i ss s e f is)

listed_sooner : (f : ℕ → ℕ) (v low high end : ℕ) (ks : List ℕ) → low ≤ high → Listed f v high end ks → Listed f v low end ks
listed_sooner f v low high end [] le listed = tt
listed_sooner f v low high end (k ∷ ks) le listed = (omega (arith, listed.0), listed.1, listed.2, listed.3)

-- a slot's number is between two limits where it is filled, and the later ones start at the second
pub listed_slot : (f : ℕ → ℕ) (v low next end : ℕ) (b : Bool) (k : ℕ) (ks : List ℕ) → low ≤ next → (b ≡ true → (low ≤ k) × (k < next) × (k < end) × (f k ≡ v)) → Listed f v next end ks → Listed f v low end (put b k ks)
listed_slot f v low next end true k ks le fits rest =
    let r = fits refl in (r.0, r.2, r.3, listed_sooner f v (suc k) next end ks r.1 rest)
listed_slot f v low next end false k ks le fits rest = listed_sooner f v low next end ks le rest
