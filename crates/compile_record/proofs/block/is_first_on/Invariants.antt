use Rattle.std.proofs.Common.{◌≡◌, drop}
use Rattle.compile_record.proofs.block.is_first_on.Given as goal
use Rattle.compile_barriers.specs.Unions.{on}

abbrev pub invariant-loop-one : goal.invariant-loop-one
invariant-loop-one l = on l.queue (drop l.one-index l.uses) ≡ on l.queue l.uses
