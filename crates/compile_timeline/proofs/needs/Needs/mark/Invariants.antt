use Rattle.std.proofs.Common.{◌≡◌, ◌||◌, ℕ, false, length, get_or}
use Rattle.compile_timeline.specs.Below.{any_below}
use Rattle.compile_timeline.specs.Internal.Walks.{is_for}
use Rattle.compile_timeline.proofs.needs.Needs.mark.Given as goal

abbrev pub invariant-loop-queue : goal.invariant-loop-queue
invariant-loop-queue l = record {
  size : length l.awaited ≡ length l.fn.awaited;
  marked : (j : ℕ) → get_or l.awaited j false ≡ (any_below (is_for l.self j) l.queue || get_or l.fn.awaited j false);
}
