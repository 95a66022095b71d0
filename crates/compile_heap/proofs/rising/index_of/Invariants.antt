use Rattle.std.proofs.Common.{ℕ, ◌<◌, ◌≤◌, get_or}
use Rattle.compile_heap.specs.Placing.{number_at}
use Rattle.compile_heap.proofs.rising.index_of.Given as goal

abbrev pub invariant-loop-index : goal.invariant-loop-index
invariant-loop-index l = (k d : ℕ) → k < l.index → number_at l.offsets (get_or l.placed k d) ≤ l.offset
