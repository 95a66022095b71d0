use Rattle.std.proofs.Common.{◌≡◌, map, take}
use Rattle.check_access.specs.Views.{overlapping_in}
use Rattle.check_access.proofs.overlaps.lists_of.Given as goal

abbrev pub invariant-loop-piece : goal.invariant-loop-piece
invariant-loop-piece l = l.lists ≡ map (overlapping_in l.pieces) (take l.piece-index l.pieces)
