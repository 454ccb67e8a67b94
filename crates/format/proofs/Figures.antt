-- Reading digits one after another, up to the limit.
use Rattle.std.proofs.Common.{◌≡◌, ℕ, ◌+◌, ◌-◌, ◌*◌, ◌<◌, ◌≤◌, not, ◌||◌, eqb, leb, List, [], ◌∷◌, length, get_or, drop, None, sym, ap, ◌∙◌, le_trans, add-one, arith, drop-cons}
use Rattle.std.proofs.lemmas.Bool.{lt-leb, and_right, cond-false}
use Rattle.format.specs.Items.{reads, sound, numeral}

-- the digit at i is read after n
reads_at : (w : List ℕ) (i n : ℕ) → i < length w → reads n (drop i w) ≡ reads (10 * n + (get_or w i 0 - 48)) (drop (i + 1) w)
reads_at w i n h = rw (drop-cons w i 0, add-one)

pub reads_next : (w : List ℕ) (i n d : ℕ) → i < length w → d ≡ get_or w i 0 - 48 → reads 0 w ≡ reads n (drop i w) → reads 0 w ≡ reads (10 * n + d) (drop (i + 1) w)
reads_next w i n d h e inv = inv ∙ (reads_at w i n h ∙ ap (λ d. reads (10 * n + d) (drop (i + 1) w)) (sym e))

pub reads_ge : (w : List ℕ) (n : ℕ) → n ≤ reads n w
reads_ge [] n = omega arith
reads_ge (c ∷ w) n = le_trans (omega arith) (reads_ge w (10 * n + (c - 48)))

-- above the limit
pub numeral_large : (w : List ℕ) → 4294967294 < reads 0 w → None ≡ numeral w
numeral_large w h = sym (cond-false (sound w) _ _ (and_right (not (eqb (get_or w 0 0) 48) || eqb (length w) 1) (leb (reads 0 w) 4294967294) (lt-leb (reads 0 w) 4294967294 h)))
