use Rattle.std.proofs.Common.{◌≡◌, take, map}
use Rattle.program.proofs.program.Program.shapes.Given as goal

abbrev pub invariant-loop-piece : goal.invariant-loop-piece
invariant-loop-piece l = l.shapes ≡ map (λ piece. piece.shape) (take l.piece-index l.pieces)
