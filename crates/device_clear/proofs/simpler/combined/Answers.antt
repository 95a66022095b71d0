use Rattle.std.proofs.Common.{◌≡◌, ◌%◌, subst}
use Rattle.base.specs.Kernels.{fun_of}
use Rattle.base.specs.Texels.{modulus}
use Rattle.base.specs.declared.grid.Grid.{Grid}
use Rattle.device_clear.proofs.Effects.{combination_of_two}
use Rattle.device_clear.proofs.simpler.combined.Goals as goal

pub returns-clause-same : goal.returns-clause-same
returns-clause-same c =
    let first = c.in_ok-first.first in
    let second = c.in_ok-second.second in
    let P : Grid → Type 0 = λ g. c.number-both.result % modulus g.texel ≡ fun_of g.texel c.args.fun (first % modulus g.texel) (second % modulus g.texel) % modulus g.texel in
    combination_of_two c.args.from.0 c.args.from.1 c.args.to c.args.fun first second c.number-both.result c.args.a.now c.args.b.now c.in_ok-first.ensures.bytes c.in_ok-second.ensures.bytes (subst P c.canvas.ensures c.number-both.ensures)
