use Rattle.std.proofs.Common.{◌≡◌, drop, length}
use Rattle.frame_cull.specs.Internal.Counts.{counted}
use Rattle.frame_cull.proofs.counts.count_all.Given as goal

abbrev pub invariant-loop-row : goal.invariant-loop-row
invariant-loop-row l = record { size : length l.refs ≡ length l.fn.refs; refs : counted (drop l.row-index l.sources) l.refs ≡ counted l.sources l.fn.refs }
