use Rattle.std.proofs.Common.{◌≡◌, drop}
use Rattle.frame.specs.Uses.{starts_whole}
use Rattle.frame.proofs.uses.starts_whole.Given as goal

abbrev pub invariant-loop-op : goal.invariant-loop-op
invariant-loop-op l = starts_whole l.shapes (drop l.op-index l.ops) l.unit ≡ starts_whole l.shapes l.ops l.unit
