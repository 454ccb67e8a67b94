-- What the watcher of a two-way search makes of a node that is relabelled.
use Rattle.std.specs.Prelude.{ℕ}
use Rattle.cost.specs.Kind.{Kind}
use Rattle.search.specs.declared.meeter.Meeter.{Meeter}
use Rattle.search.specs.Rows.{row_at}
use Rattle.search.specs.TwoWay.{meet}

-- node v has the new label c: both labels of it are joined
abbrev pub met_at : {C : Type 0} → Kind C → Meeter C → ℕ → C → Meeter C
met_at k m v c = record { others = m.others; met = meet k (k.join c (row_at k m.others.now v).label) v m.met }
