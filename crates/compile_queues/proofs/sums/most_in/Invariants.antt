use Rattle.std.proofs.Common.{length, take}
use Rattle.std.specs.List.{list_any}
use Rattle.compile_queues.specs.Internal.Spans.{is_by}
use Rattle.compile_queues.specs.Internal.Sweep.{IsTop}
use Rattle.compile_queues.proofs.sums.most_in.Given as goal

abbrev pub invariant-loop-one : goal.invariant-loop-one
invariant-loop-one l = IsTop (λ c. list_any (is_by l.unit c) (take l.one-index l.group)) l.sums (length l.sums) l.most
