-- The numbers of a form, one after another; and the forms that have one, two or three.
use Rattle.std.proofs.Common.{◌≡◌, ℕ, suc, List, [], ◌∷◌, ◌++◌, Option, slice_index, sym, refl, ap, ◌∙◌, append_assoc, append-nil}
use Rattle.std.specs.Option.{option_map}
use Rattle.format.specs.Form.{Token}
use Rattle.format.specs.Items.{Took, took, other, then, opens, closes, says, begins, number, many, values, numbers_form, triple, table, mark_form, mark_word, to_word, from_word, all}
use Rattle.format.specs.Commands.{single_form, pair_form}
use Rattle.format.specs.Reads.{triple_of}

-- what is left of a form of which some numbers were taken
abbrev pub rest_of : List ℕ → ℕ → List Token → Took (List ℕ)
rest_of done n ts = then (many number n ts) λ xs ts. then (closes ts) λ _ ts. took (done ++ xs) ts

pub rest_start : (n : ℕ) (w : List ℕ) (ts us : List Token) → begins w ts ≡ took tt us → numbers_form n w ts ≡ rest_of [] n us
unfolding numbers_form
rest_start n w ts us e = rw e

pub rest_other : (n : ℕ) (w : List ℕ) (ts : List Token) → begins w ts ≡ other → numbers_form n w ts ≡ other
unfolding numbers_form
rest_other n w ts e = rw e

pub rest_none : (done : List ℕ) (n m : ℕ) (us : List Token) → n ≡ suc m → number us ≡ other → rest_of done n us ≡ other
unfolding many
rest_none done n m us p e = ap (λ k. rest_of done k us) p ∙ rw e

pub rest_more : (done : List ℕ) (n m x : ℕ) (us vs : List Token) → n ≡ suc m → number us ≡ took x vs → rest_of done n us ≡ rest_of (done ++ (x ∷ [])) m vs
unfolding many
rest_more done n m x us vs p e = ap (λ k. rest_of done k us) p ∙ rw e (by (many number m vs))
  where
    by : (v : Took (List ℕ)) → then (then v (λ ys r. took (x ∷ ys) r)) (λ xs ts. then (closes ts) λ _ ts. took (done ++ xs) ts) ≡ then v (λ xs ts. then (closes ts) λ _ ts. took ((done ++ (x ∷ [])) ++ xs) ts)
    by (took ys r) = ap (λ zs. then (closes r) (λ _ ts. took zs ts)) (sym (append_assoc done (x ∷ []) ys))
    by other = refl

pub rest_all : (done : List ℕ) (n : ℕ) (us : List Token) → n ≡ 0 → rest_of done n us ≡ then (closes us) (λ _ ts. took done ts)
unfolding many
rest_all done n us p = ap (λ k. rest_of done k us) p ∙ ap (λ zs. then (closes us) (λ _ ts. took zs ts)) (append-nil done)

-- steps of a form

pub then_same : {A B : Type 0} (t : Took A) (f g : A → List Token → Took B) → ((a : A) (us : List Token) → f a us ≡ g a us) → then t f ≡ then t g
then_same (took a us) f g h = h a us
then_same other f g h = refl

pub then_then : {A B C : Type 0} (t : Took A) (f : A → List Token → Took B) (g : B → List Token → Took C) → then (then t f) g ≡ then t (λ a us. then (f a us) g)
then_then (took a us) f g = refl
then_then other f g = refl

pub table_begins : (w : List ℕ) (n : ℕ) (ts : List Token) → table w n ts ≡ then (begins w ts) (λ _ us. then (values n us) (λ xs vs. then (closes vs) (λ _ zs. took xs zs)))
unfolding table
table_begins w n ts = sym (then_then (opens ts) _ _)

pub mark_begins : (n : ℕ) (ts : List Token) → mark_form n ts ≡ then (begins mark_word ts) (λ _ us. then (table to_word n us) (λ xs vs. then (table from_word n vs) (λ ys ws. then (closes ws) (λ _ zs. took (record { to = xs; from = ys }) zs))))
unfolding mark_form
mark_begins n ts = sym (then_then (opens ts) _ _)

-- the first of some numbers
many_then : {B : Type 0} (n : ℕ) (ts : List Token) (k : List ℕ → List Token → Took B) → then (many number (suc n) ts) k ≡ then (number ts) (λ x us. then (many number n us) (λ xs vs. k (x ∷ xs) vs))
unfolding many
many_then n ts k = then_then (number ts) _ k ∙ then_same (number ts) _ _ (λ x us. then_then (many number n us) _ k)

one_number : {B : Type 0} (ts : List Token) (k : List ℕ → List Token → Took B) → then (many number 1 ts) k ≡ then (number ts) (λ x us. k (x ∷ []) us)
unfolding many
one_number ts k = many_then 0 ts k

two_numbers : {B : Type 0} (ts : List Token) (k : List ℕ → List Token → Took B) → then (many number 2 ts) k ≡ then (number ts) (λ x us. then (number us) (λ y vs. k (x ∷ y ∷ []) vs))
two_numbers ts k = many_then 1 ts k ∙ then_same (number ts) _ _ (λ x us. one_number us (λ xs vs. k (x ∷ xs) vs))

three_numbers : {B : Type 0} (ts : List Token) (k : List ℕ → List Token → Took B) → then (many number 3 ts) k ≡ then (number ts) (λ x us. then (number us) (λ y vs. then (number vs) (λ z ws. k (x ∷ y ∷ z ∷ []) ws)))
three_numbers ts k = many_then 2 ts k ∙ then_same (number ts) _ _ (λ x us. two_numbers us (λ xs vs. k (x ∷ xs) vs))

-- a form of numbers, made into something else
numbers_made : {B : Type 0} (f : List ℕ → B) (n : ℕ) (w : List ℕ) (ts : List Token) → then (numbers_form n w ts) (λ xs us. took (f xs) us) ≡ then (opens ts) (λ _ us. then (says w us) (λ _ vs. then (many number n vs) (λ xs ws. then (closes ws) (λ _ zs. took (f xs) zs))))
unfolding numbers_form
numbers_made f n w ts =
    then_then (begins w ts) _ _ ∙ (then_then (opens ts) _ _
    ∙ then_same (opens ts) _ _ (λ _ us. then_same (says w us) _ _ (λ _ vs. then_then (many number n vs) _ _ ∙ then_same (many number n vs) _ _ (λ xs ws. then_then (closes ws) _ _))))

pub single_numbers : (w : List ℕ) (ts : List Token) → single_form w ts ≡ then (numbers_form 1 w ts) (λ xs us. took (slice_index xs 0) us)
unfolding single_form
single_numbers w ts = sym (numbers_made (λ xs. slice_index xs 0) 1 w ts ∙ then_same (opens ts) _ _ (λ _ us. then_same (says w us) _ _ (λ _ vs. one_number vs _)))

pub pair_numbers : (w : List ℕ) (ts : List Token) → pair_form w ts ≡ then (numbers_form 2 w ts) (λ xs us. took (slice_index xs 0, slice_index xs 1) us)
unfolding pair_form
pair_numbers w ts = sym (numbers_made (λ xs. (slice_index xs 0, slice_index xs 1)) 2 w ts ∙ then_same (opens ts) _ _ (λ _ us. then_same (says w us) _ _ (λ _ vs. two_numbers vs _)))

pub triple_numbers : (w : List ℕ) (ts : List Token) → triple w ts ≡ then (numbers_form 3 w ts) (λ xs us. took (triple_of xs) us)
unfolding triple
triple_numbers w ts = sym (numbers_made triple_of 3 w ts ∙ then_same (opens ts) _ _ (λ _ us. then_same (says w us) _ _ (λ _ vs. three_numbers vs _)))

-- a whole form, made into something else
pub all_made : {A B : Type 0} (f : A → B) (t : Took A) → all (then t (λ a us. took (f a) us)) ≡ option_map f (all t)
all_made f (took a []) = refl
all_made f (took a (u ∷ us)) = refl
all_made f other = refl

pub single_all : (w : List ℕ) (ts : List Token) (r : Option (List ℕ)) → all (numbers_form 1 w ts) ≡ r → all (single_form w ts) ≡ option_map (λ xs. slice_index xs 0) r
single_all w ts r e = ap all (single_numbers w ts) ∙ (all_made _ (numbers_form 1 w ts) ∙ ap (option_map (λ xs. slice_index xs 0)) e)

pub pair_all : (w : List ℕ) (ts : List Token) (r : Option (List ℕ)) → all (numbers_form 2 w ts) ≡ r → all (pair_form w ts) ≡ option_map (λ xs. (slice_index xs 0, slice_index xs 1)) r
pair_all w ts r e = ap all (pair_numbers w ts) ∙ (all_made _ (numbers_form 2 w ts) ∙ ap (option_map (λ xs. (slice_index xs 0, slice_index xs 1))) e)

pub triple_all : (w : List ℕ) (ts : List Token) (r : Option (List ℕ)) → all (numbers_form 3 w ts) ≡ r → all (triple w ts) ≡ option_map triple_of r
triple_all w ts r e = ap all (triple_numbers w ts) ∙ (all_made triple_of (numbers_form 3 w ts) ∙ ap (option_map triple_of) e)
