use Rattle.std.proofs.Common.{◌≡◌, drop, length}
use Rattle.frame_cull.specs.Internal.Counts.{raised}
use Rattle.frame_cull.proofs.counts.count_row.Given as goal

abbrev pub invariant-loop-maker : goal.invariant-loop-maker
invariant-loop-maker l = record { size : length l.refs ≡ length l.fn.refs; refs : raised (drop l.maker-index l.row) l.refs ≡ raised l.row l.fn.refs }
