-- The digits that the writer writes are read back, and digits that are accepted are those that it writes.
use Rattle.std.proofs.Common.{◌≡◌, ℕ, ◌<◌, ◌≤◌, true, not, ◌||◌, eqb, leb, List, length, get_or, decimal, sym, ap, subst, ⊎_elim, arith, rules}
use Rattle.std.specs.List.{AllByRecursion}
use Rattle.std.specs.Int.{IsInRange}
use Rattle.std.proofs.lemmas.Str.Parse.{IsNumeralModel, numerals_by_fold}
use Rattle.std.proofs.lemmas.Fmt.{digits_decimal, digits_value-decimal, decimal-digits_value, decimal_nonempty, decimal_digit, first_decimal}
use Rattle.std.proofs.lemmas.Bool.{leb-true, le-leb, eqb-true, eq-eqb, ne_eqb, and_parts, and_from, or_cases, or_left, or_right, not_from_false, not-true, eqb-false, cases_eq}
use Rattle.format.specs.Form.{digits, belongs, Kind}
use Rattle.format.specs.Items.{reads, sound}

-- each byte is one of a run's
abbrev pub Run : Kind → List ℕ → Type 0
Run k w = AllByRecursion (λ c. belongs k c ≡ true) w

digit_in : (c : ℕ) → belongs digits c ≡ true → IsInRange 48 57 c
unfolding belongs
digit_in c h = let p = and_parts (leb 48 c) (leb c 57) h in (leb-true 48 c p.0, leb-true c 57 p.1)

in_digit : (c : ℕ) → IsInRange 48 57 c → belongs digits c ≡ true
unfolding belongs
in_digit c h = and_from (leb 48 c) (leb c 57) (le-leb 48 c h.0) (le-leb c 57 h.1)

own : IsNumeralModel (Run digits) (reads 0)
own = numerals_by_fold (Run digits) (record { empty = tt; parts = λ c cs h. (digit_in c h.0, h.1); more = λ c cs h k. (in_digit c h, k) }) reads (search rules)

pub record Number (n : ℕ) (w : List ℕ) : Type 0 where
  pub figures : Run digits w
  pub some : 0 < length w
  pub fits : sound w ≡ true
  pub reads_back : reads 0 w ≡ n

pub number_of : (n : ℕ) → n ≤ 4294967294 → Number n (decimal n)
number_of n h =
    let back : reads 0 (decimal n) ≡ n = digits_value-decimal own n (omega arith) in
    record {
      figures = digits_decimal own n (omega arith);
      some = decimal_nonempty n (omega arith);
      fits = and_from _ _ lead (rw back (le-leb n 4294967294 h));
      reads_back = back;
    }
  where
    lead : (not (eqb (get_or (decimal n) 0 0) 48) || eqb (length (decimal n)) 1) ≡ true
    lead = ⊎_elim
        (λ e. or_right _ _ (eq-eqb _ 1 (subst (λ k. length (decimal k) ≡ 1) (sym e) (ap length (decimal_digit 0 (omega arith))))))
        (λ z. or_left _ _ (not_from_false _ (ne_eqb (get_or (decimal n) 0 0) 48 (λ e. let f = first_decimal n (omega arith) (omega arith) in omega arith))))
        (cases_eq n 0)

pub number_only : (w : List ℕ) → Run digits w → 0 < length w → sound w ≡ true → (decimal (reads 0 w) ≡ w) × (reads 0 w ≤ 4294967294)
number_only w r some s =
    let p = and_parts (not (eqb (get_or w 0 0) 48) || eqb (length w) 1) _ s in
    let le = leb-true _ _ p.1 in
    (decimal-digits_value own w r some (λ e. ⊎_elim (λ f. absurd (eqb-false _ 48 (not-true _ f) e)) (λ g. eqb-true _ 1 g) (or_cases _ _ p.0)) (omega arith), le)
