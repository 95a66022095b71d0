use Rattle.std.proofs.Common.{◌≡◌, map}
use Rattle.std.specs.List.{filter, range_with_len}
use Rattle.compile_record.specs.Pieces.{has_piece, piece}
use Rattle.compile_record.proofs.pieces.pieces.Given as goal

abbrev pub invariant-loop-r : goal.invariant-loop-r
invariant-loop-r l = l.list ≡ map (piece l.groups l.placement.offsets) (filter (has_piece l.groups) (range_with_len 0 l.r))
