use Rattle.std.proofs.Common.{◌≡◌, drop, take}
use Rattle.base.specs.Walks.{first_in}
use Rattle.frame.proofs.table.distinct.Given as goal
use Rattle.frame.specs.Repeats.{repeats_at, first_repeat}

abbrev pub invariant-loop-i : goal.invariant-loop-i
invariant-loop-i l = record { keys : l.seen.keys ≡ take l.i l.names; so_far : first_in (repeats_at l.names) l.i (drop l.i l.names) ≡ first_repeat l.names }
