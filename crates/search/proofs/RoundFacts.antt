-- Turns of both sides, one after another, by what each of them comes to.
use Rattle.std.proofs.Common.{◌≡◌, ℕ, suc, List, sym, ap, ◌∙◌}
use Rattle.cost.specs.Kind.{Kind}
use Rattle.plant.specs.Floor.{Floor, turned}
use Rattle.plant.specs.FloorFacts.{turned_twice}
use Rattle.search.specs.declared.meeting.Meeting.{Meeting}
use Rattle.search.specs.declared.row.Row.{Row}
use Rattle.search.specs.Turns.{Stays, Goes}
use Rattle.search.specs.TwoWay.{Both, both_of, flip, two_from}

-- what a run of turns that ended with b leaves
pub told : {C : Type 0} (b : Both C) (rows back : List (Row C)) (x y : C) (met : Meeting C) → b ≡ both_of rows x back y met → (rows ≡ b.near.rows) × (back ≡ b.far.rows) × (met ≡ b.met)
told {C} b rows back x y met e = (sym (ap (λ (z : Both C). z.near.rows) e), sym (ap (λ (z : Both C). z.far.rows) e), sym (ap (λ (z : Both C). z.met) e))

module _ {C : Type 0} (k : Kind C) (f : Floor C) (start goal : ℕ) (rows back : List (Row C)) (x back_last : C) (met : Meeting C) (fuel : ℕ) where
  abbrev b : Both C
  b = both_of rows x back back_last met

  -- the forward side has no turn
  pub ends_forward : (n : ℕ) → fuel ≡ suc n → Stays k f start goal rows back back_last met → two_from k f start goal fuel b ≡ b
  ends_forward n e stays = ap (λ (m : ℕ). two_from k f start goal m b) e ∙ stays n x

  module _ (rows' : List (Row C)) (last : C) (met' : Meeting C) (goes : Goes k f start goal rows rows' back back_last met last met') where
    -- the forward side's is the last turn
    pub ends_between : fuel ≡ 1 → two_from k f start goal fuel b ≡ both_of rows' last back back_last met'
    ends_between e = ap (λ (m : ℕ). two_from k f start goal m b) e ∙ goes 0 x

    module _ (n : ℕ) (e : fuel ≡ suc (suc n)) where
      -- the back side has no turn
      pub ends_back : Stays k (turned f) goal start back rows' last met' → two_from k f start goal fuel b ≡ both_of rows' last back back_last met'
      ends_back stays = ap (λ (m : ℕ). two_from k f start goal m b) e ∙ goes (suc n) x ∙ ap flip (stays n back_last)

      -- both sides have their turn
      pub round : (back' : List (Row C)) (y : C) (met'' : Meeting C) → Goes k (turned f) goal start back back' rows' last met' y met'' → two_from k f start goal fuel b ≡ two_from k f start goal n (both_of rows' last back' y met'')
      round back' y met'' backs =
          ap (λ (m : ℕ). two_from k f start goal m b) e ∙ goes (suc n) x ∙ ap flip (backs n back_last)
          ∙ ap (λ (z : Floor C). two_from k z start goal n (both_of rows' last back' y met'')) (turned_twice f)
