use Rattle.std.proofs.Common.{◌≡◌, ℕ, false, length, get_or}
use Rattle.compile_timeline.specs.Below.{any_below}
use Rattle.compile_timeline.specs.Signals.{awaited_by}
use Rattle.compile_timeline.proofs.signals.awaited.Given as goal

abbrev pub invariant-loop-queue : goal.invariant-loop-queue
invariant-loop-queue l = record {
  size : length l.awaited ≡ length l.script;
  marked : (j : ℕ) → get_or l.awaited j false ≡ any_below (λ q. awaited_by l.script l.count j q (length l.script)) l.queue;
}
