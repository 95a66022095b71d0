use Rattle.std.proofs.Common.{true}
use Rattle.compile_queues.specs.Internal.Sweep.{IsTop}
use Rattle.compile_queues.proofs.sums.greatest.Given as goal

abbrev pub invariant-loop-sum : goal.invariant-loop-sum
invariant-loop-sum l = IsTop (λ k. true) l.sums l.sum-index l.most
