use Rattle.std.proofs.Common.{◌≡◌, map}
use Rattle.std.specs.List.{filter, range_with_len}
use Rattle.compile_record.specs.Pieces.{is_readback, piece_of}
use Rattle.compile_record.proofs.pieces.readbacks.Given as goal

abbrev pub invariant-loop-r : goal.invariant-loop-r
invariant-loop-r l = l.list ≡ map (piece_of l.groups) (filter (is_readback l.groups) (range_with_len 0 l.r))
