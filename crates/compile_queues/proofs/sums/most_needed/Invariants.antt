use Rattle.std.proofs.Common.{length, take}
use Rattle.std.specs.List.{list_any}
use Rattle.compile_queues.specs.Internal.Spans.{precedes}
use Rattle.compile_queues.specs.Internal.Sweep.{IsTop}
use Rattle.compile_queues.proofs.sums.most_needed.Given as goal

abbrev pub invariant-loop-j : goal.invariant-loop-j
invariant-loop-j l = IsTop (λ c. list_any (precedes l.uses l.spans c) (take l.j-index l.places)) l.sums (length l.sums) l.most
