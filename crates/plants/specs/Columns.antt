-- What the lists of a plant hold.
use Rattle.std.specs.Prelude.{ℕ, ◌*◌, List, length, take, drop}
use denote.Ref.{Bor}
use Rattle.plants.specs.declared.lists.ListsOf.{ListsOf}

pub record Columns : Type 0 where
  pub tails : List ℕ
  pub heads : List ℕ
  pub costs : List ℕ
  pub first_out : List ℕ
  pub first_in : List ℕ
  pub by_head : List ℕ
  pub to : List ℕ
  pub from : List ℕ

abbrev pub columns : ListsOf (Bor (List ℕ)) → Columns
columns l = record {
  tails = l.tails.now;
  heads = l.heads.now;
  costs = l.costs.now;
  first_out = l.first_out.now;
  first_in = l.first_in.now;
  by_head = l.by_head.now;
  to = l.to.now;
  from = l.from.now;
}

abbrev pub lane_count : Columns → ℕ
lane_count c = length c.tails

-- the entries of landmark m in a table, one for each node
abbrev pub row : ℕ → List ℕ → ℕ → List ℕ
row nodes table m = take nodes (drop (m * nodes) table)
