-- Runs and tokens at a place of the text.
use Rattle.std.proofs.Common.{◌≡◌, ℕ, ◌+◌, ◌<◌, ◌≤◌, true, false, List, [], ◌∷◌, ◌++◌, length, get_or, take, drop, sym, ap, ◌∙◌, add-one, append_assoc, append-nil, drop-cons}
use Rattle.std.proofs.lemmas.List.{drop_all, take_all, take_more}
use Rattle.format.specs.Form.{Kind, belongs}
use Rattle.format.specs.Lex.{front}

pub front_more : (k : Kind) (src : List ℕ) (i : ℕ) → i < length src → belongs k (get_or src i 0) ≡ true → front k (drop i src) ≡ get_or src i 0 ∷ front k (drop (i + 1) src)
unfolding front
front_more k src i h b = rw (drop-cons src i 0, add-one, b)

pub front_halt : (k : Kind) (src : List ℕ) (i : ℕ) → i < length src → belongs k (get_or src i 0) ≡ false → front k (drop i src) ≡ []
unfolding front
front_halt k src i h b = rw (drop-cons src i 0, b)

pub front_none : (k : Kind) (src : List ℕ) (i : ℕ) → length src ≤ i → front k (drop i src) ≡ []
unfolding front
front_none k src i h = rw (drop_all i src h)

-- a run is what stands before i, and what goes on there

pub front_on : (k : Kind) (src : List ℕ) (i : ℕ) → i < length src → belongs k (get_or src i 0) ≡ true → front k src ≡ take i src ++ front k (drop i src) → front k src ≡ take (i + 1) src ++ front k (drop (i + 1) src)
front_on k src i h b e =
    e ∙ (ap (λ t. take i src ++ t) (front_more k src i h b) ∙ (sym (append_assoc (take i src) (get_or src i 0 ∷ []) (front k (drop (i + 1) src)))
    ∙ ap (λ t. t ++ front k (drop (i + 1) src)) (sym (take_more src i 0 h))))

pub front_off : (k : Kind) (src : List ℕ) (i : ℕ) → i < length src → belongs k (get_or src i 0) ≡ false → front k src ≡ take i src ++ front k (drop i src) → take i src ≡ front k src
front_off k src i h b e = sym (e ∙ (ap (λ t. take i src ++ t) (front_halt k src i h b) ∙ append-nil (take i src)))

pub front_whole : (k : Kind) (src : List ℕ) (i : ℕ) → length src ≤ i → front k src ≡ take i src ++ front k (drop i src) → src ≡ front k src
front_whole k src i h e = sym (e ∙ (ap (λ t. take i src ++ t) (front_none k src i h) ∙ (append-nil (take i src) ∙ take_all i src h)))
