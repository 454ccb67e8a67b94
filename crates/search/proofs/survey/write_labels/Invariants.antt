use Rattle.std.proofs.Common.{◌≡◌, map, take}
use Rattle.search.specs.Lists.{onto}
use Rattle.search.specs.Steps.{label_of}
use Rattle.search.proofs.survey.write_labels.Given as goal

abbrev pub invariant-loop-i : goal.invariant-loop-i
invariant-loop-i g l = l.costs ≡ onto (map label_of (take l.i l.rows)) l.initial.costs
