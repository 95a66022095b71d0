use Rattle.std.proofs.Common.{get_or, ap, arith}
use Rattle.base.specs.Shapes.{bytes_of}
use Rattle.device.proofs.opening.rooms.Goals as goal
use Rattle.program.specs.declared.program.Piece.{Piece}

pub overflow_cast-len : goal.overflow_cast-len
overflow_cast-len c =
    let p = get_or c.args.readbacks.now c.loop-piece.piece-index 0 in
    omega (arith, c.bytes-len.ensures.bytes, ap (λ (x : Piece). bytes_of x.shape) c.piece.ensures, c.requires.small p (c.requires.there c.loop-piece.piece-index 0 c.loop-piece-test.true))
