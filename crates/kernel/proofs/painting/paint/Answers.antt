use Rattle.std.proofs.Common.{◌∙◌, arith}
use Rattle.kernel.proofs.Pieces.{band_from}
use Rattle.kernel.proofs.painting.paint.Goals as goal

pub returns : goal.returns
returns g c p gives =
    let args = c.args in
    let up = c.loop-y.invariant in
    band_from args.texel args.width args.first args.count p c.loop-y.out up.1 (c.loop-y.auto.out ∙ c.requires.size) (λ x y hx hy. up.2 p gives x y hx (omega arith))
