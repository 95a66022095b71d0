use Rattle.std.proofs.Common.{◌≡◌, ◌<◌, ℕ, get_or, length}
use Rattle.program.specs.Entries.{first_node}
use Rattle.check_order.proofs.drain.starts_of.Given as goal

abbrev pub invariant-loop-q : goal.invariant-loop-q
invariant-loop-q l = record {
  size : length l.starts.items ≡ l.q;
  begins : (r : ℕ) → r < l.q → get_or l.starts.items r 0 ≡ first_node l.program r;
}
