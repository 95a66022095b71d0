use Rattle.std.proofs.Common.{◌≡◌, ◌++◌, map}
use Rattle.std.specs.List.{range_with_len}
use Rattle.program.specs.declared.nodes.NodeAt.TheVariants as node
use Rattle.program.proofs.nodes.push_waits.Given as goal

abbrev pub invariant-loop-k : goal.invariant-loop-k
invariant-loop-k l = l.nodes ≡ l.initial.nodes ++ map (λ k. node.Wait l.queue l.batch k) (range_with_len 0 l.k)
