use Rattle.std.proofs.Common.{◌-◌, length}
use Rattle.check_state.specs.Internal.Tables.{IsAhead}
use Rattle.check_state.proofs.ahead.ahead_of.Given as goal

abbrev pub invariant-loop-k : goal.invariant-loop-k
invariant-loop-k l = IsAhead l.view l.accesses (length l.accesses - l.k) l.ahead
