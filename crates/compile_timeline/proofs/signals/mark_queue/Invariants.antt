use Rattle.std.proofs.Common.{◌≡◌, ◌||◌, ℕ, false, length, get_or}
use Rattle.compile_timeline.specs.Internal.Walks.{Knows}
use Rattle.compile_timeline.specs.Signals.{awaited_by}
use Rattle.compile_timeline.proofs.signals.mark_queue.Given as goal

abbrev pub invariant-loop-at : goal.invariant-loop-at
invariant-loop-at l = record {
  size : length l.awaited ≡ length l.script;
  count : length l.needs.latest ≡ l.count;
  knows : Knows l.script l.queue l.at l.needs;
  marked : (j : ℕ) → get_or l.awaited j false ≡ (awaited_by l.script l.count j l.queue l.at || get_or l.fn.awaited j false);
}
