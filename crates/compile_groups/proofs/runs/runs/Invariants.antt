use Rattle.std.proofs.Common.{◌≡◌, take}
use Rattle.compile_groups.specs.Groups.{joins, runs}
use Rattle.compile_groups.proofs.runs.runs.Given as goal

abbrev pub invariant-loop-one : goal.invariant-loop-one
invariant-loop-one l = l.list ≡ runs (joins l.families l.sharings) (take l.one-index l.uses)
