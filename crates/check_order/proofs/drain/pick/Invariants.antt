use Rattle.std.proofs.Common.{◌≡◌, ◌<◌, ℕ, false}
use Rattle.check_order.specs.Internal.Queues.{queues_of, goes_on}
use Rattle.check_order.proofs.drain.pick.Given as goal

abbrev pub invariant-loop-q : goal.invariant-loop-q
invariant-loop-q l = (r : ℕ) → r < l.q → goes_on (queues_of l.edges l.starts) l.next r ≡ false
