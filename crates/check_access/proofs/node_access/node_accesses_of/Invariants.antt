use Rattle.std.proofs.Common.{◌≡◌, ◌++◌, map, take}
use Rattle.check_access.specs.Views.{node_access, node_accesses_of}
use Rattle.check_access.proofs.node_access.node_accesses_of.Given as goal

abbrev pub invariant-loop-access : goal.invariant-loop-access
invariant-loop-access l = l.node_accesses ≡ l.initial.node_accesses ++ map (node_access l.n) (take l.access-index l.access-items)

abbrev pub invariant-loop-n : goal.invariant-loop-n
invariant-loop-n l = l.node_accesses ≡ node_accesses_of l.view (take l.n-index l.order)
