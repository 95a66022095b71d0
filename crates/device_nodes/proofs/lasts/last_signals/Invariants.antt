use Rattle.std.proofs.Common.{◌≡◌, ℕ, length, get_or, None}
use Rattle.device_nodes.proofs.lasts.last_signals.Given as goal
use Rattle.device_nodes.specs.Internal.Blocked.{signal_below}

abbrev pub invariant-loop-n : goal.invariant-loop-n
invariant-loop-n l = record {
  size : length l.lasts ≡ l.queues;
  each : (q : ℕ) → get_or l.lasts q None ≡ signal_below l.view q l.n;
}
