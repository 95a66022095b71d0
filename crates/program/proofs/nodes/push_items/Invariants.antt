use Rattle.std.proofs.Common.{◌≡◌, ◌++◌, map}
use Rattle.std.specs.List.{range_with_len}
use Rattle.program.specs.declared.nodes.NodeAt.TheVariants as node
use Rattle.program.proofs.nodes.push_items.Given as goal

abbrev pub invariant-loop-k : goal.invariant-loop-k
invariant-loop-k l = l.nodes ≡ l.initial.nodes ++ map (λ k. node.Item l.queue l.batch k) (range_with_len 0 l.k)
