use Rattle.std.proofs.Common.{◌≡◌, take}
use Rattle.frame_cull.specs.Internal.Counts.{root_counts}
use Rattle.frame_cull.proofs.counts.counted.Given as goal

abbrev pub invariant-loop-root : goal.invariant-loop-root
invariant-loop-root l = l.refs ≡ root_counts (take l.root-index l.roots)
