use Rattle.std.proofs.Common.{◌≡◌, ◌++◌, drop}
use Rattle.frame_cull.specs.Internal.Counts.{idle_from}
use Rattle.frame_cull.proofs.counts.idle.Given as goal

abbrev pub invariant-loop-at : goal.invariant-loop-at
invariant-loop-at l = l.stack ++ idle_from l.at (drop l.at l.refs) ≡ idle_from 0 l.refs
