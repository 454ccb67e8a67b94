-- Calls in turn, part of the way: i calls are made, and the places before `at` are taken.
use Rattle.std.specs.Prelude.{◌≡◌, ℕ, ◌≤◌, List, ◌++◌, length, take, drop}
use Rattle.cost.specs.Kind.{Kind}
use Rattle.plant.specs.Floor.{Floor}
use Rattle.search.specs.declared.call.Call.{Call}
use Rattle.search.specs.declared.row.Row.{Row}
use Rattle.search.specs.Calls.{Reply, Areas}
use Rattle.search.specs.Served.{served_from}

-- what is there, with what the calls that are left will add, is what all calls give
pub record Serving {C : Type 0} (k : Kind C) (f : Floor C) (a : Areas) (calls : List Call) (closed₀ : List ℕ) (replies₀ : List (Reply C)) (routes₀ : List ℕ) (rows₀ back₀ : List (Row C)) (i at : ℕ) (closed : List ℕ) (replies : List (Reply C)) (routes : List ℕ) (rows back : List (Row C)) : Type 0 where
  pub told : take i replies ++ (served_from k f a closed at (drop i calls)).replies ≡ (served_from k f a closed₀ 0 calls).replies
  pub replies_past : drop i replies ≡ drop i replies₀
  pub wrote : take at routes ++ (served_from k f a closed at (drop i calls)).routes ≡ (served_from k f a closed₀ 0 calls).routes
  pub routes_past : drop at routes ≡ drop at routes₀
  pub closes : (served_from k f a closed at (drop i calls)).closed ≡ (served_from k f a closed₀ 0 calls).closed
  pub nears : (served_from k f a closed at (drop i calls)).near rows ≡ (served_from k f a closed₀ 0 calls).near rows₀
  pub fars : (served_from k f a closed at (drop i calls)).far back ≡ (served_from k f a closed₀ 0 calls).far back₀
  pub fits : at ≤ length routes
