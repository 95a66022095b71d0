use Rattle.std.proofs.Common.{◌≡◌, take}
use Rattle.compile_record.specs.Internal.Wants.{last_number}
use Rattle.compile_record.proofs.needs.last_number.Given as goal
use Rattle.compile_barriers.specs.Unions.{on}

abbrev pub invariant-loop-one : goal.invariant-loop-one
invariant-loop-one l = l.found ≡ last_number (on l.queue (take l.one-index l.uses))
