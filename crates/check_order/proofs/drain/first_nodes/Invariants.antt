use Rattle.std.proofs.Common.{◌≡◌, ◌<◌, ℕ, get_or, length}
use Rattle.check_order.proofs.drain.first_nodes.Given as goal

abbrev pub invariant-loop-q : goal.invariant-loop-q
invariant-loop-q l = record {
  size : length l.next.items ≡ l.q;
  starts : (r : ℕ) → r < l.q → get_or l.next.items r 0 ≡ get_or l.starts r 0;
}
