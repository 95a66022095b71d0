use Rattle.std.proofs.Common.{◌≡◌}
use Rattle.check_access.proofs.Overlapping.{list_until}
use Rattle.check_access.proofs.overlaps.list_of.Given as goal

abbrev pub invariant-loop-q : goal.invariant-loop-q
invariant-loop-q l = l.numbers ≡ list_until l.pieces l.a l.q
