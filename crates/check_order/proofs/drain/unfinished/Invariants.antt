use Rattle.std.proofs.Common.{◌<◌, ◌≤◌, ◌+◌, ℕ, get_or}
use Rattle.check_order.proofs.drain.unfinished.Given as goal

abbrev pub invariant-loop-q : goal.invariant-loop-q
invariant-loop-q l = (r : ℕ) → r < l.q → get_or l.starts (r + 1) 0 ≤ get_or l.next r 0
