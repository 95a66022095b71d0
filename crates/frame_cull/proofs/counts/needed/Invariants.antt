use Rattle.std.proofs.Common.{◌+◌, length}
use Rattle.std.specs.List.{sum_by}
use Rattle.frame_cull.specs.Internal.Counts.{Counts}
use Rattle.frame_cull.proofs.counts.needed.Given as goal

abbrev pub invariant-loop-pass : goal.invariant-loop-pass
invariant-loop-pass l = Counts l.sources l.roots l.refs l.stack

abbrev pub decreases-loop-pass : goal.decreases-loop-pass
decreases-loop-pass l = sum_by (λ r. r) l.refs + length l.stack
