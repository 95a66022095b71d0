use Rattle.std.proofs.Common.{◌≡◌, map, take}
use Rattle.check_access.specs.Views.{piece_imported}
use Rattle.check_access.proofs.view.imported_of.Given as goal

abbrev pub invariant-loop-piece : goal.invariant-loop-piece
invariant-loop-piece l = l.imported ≡ map (piece_imported l.program.memories) (take l.piece-index l.program.pieces)
