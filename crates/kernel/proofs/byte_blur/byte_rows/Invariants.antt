use Rattle.std.proofs.Common.{◌≡◌, ◌*◌, take}
use Rattle.base.specs.Kernels.{box3}
use Rattle.base.specs.Texels.{picture, band}
use Rattle.base.specs.declared.shape.Texel.TheVariants.{R8}
use Rattle.kernel.proofs.byte_blur.byte_rows.Given as goal

abbrev pub invariant-loop-y : goal.invariant-loop-y
invariant-loop-y l =
    take (l.y * l.width) l.out ≡ band R8 l.width l.first l.y (box3 l.grid.width l.grid.height (picture l.grid l.src))
