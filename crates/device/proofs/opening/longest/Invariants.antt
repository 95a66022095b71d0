use Rattle.std.proofs.Common.{◌≤◌, take}
use Rattle.std.specs.List.{All}
use Rattle.base.specs.Shapes.{bytes_of}
use Rattle.device.proofs.opening.longest.Given as goal

abbrev pub invariant-loop-piece : goal.invariant-loop-piece
invariant-loop-piece l = All (λ piece. bytes_of piece.shape ≤ l.longest) (take l.piece-index l.pieces)
