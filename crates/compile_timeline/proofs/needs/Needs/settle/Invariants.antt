use Rattle.std.proofs.Common.{◌≡◌, ◌<◌, ℕ, length, get_or}
use Rattle.compile_timeline.proofs.needs.Needs.settle.Given as goal

abbrev pub invariant-loop-queue : goal.invariant-loop-queue
invariant-loop-queue l = record {
  latest : l.self.latest ≡ l.fn.self.latest;
  size : length l.self.stood ≡ length l.self.latest;
  stood : (p : ℕ) → p < l.queue → get_or l.self.stood p 0 ≡ get_or l.self.latest p 0;
}
