use Rattle.std.proofs.Common.{◌≡◌, take}
use Rattle.base.specs.Applied.{begun}
use Rattle.base.specs.Kernels.{drawn}
use Rattle.base.specs.Texels.{canvas_of, painted}
use Rattle.kernel.proofs.attachment.draw.Given as goal

abbrev pub invariant-loop-rect : goal.invariant-loop-rect
invariant-loop-rect l =
    (l.grid ≡ canvas_of l.fn.shape)
    × (l.out ≡ painted l.grid (drawn l.grid.texel (take l.rect-index l.rects) (begun l.grid l.fn.clear l.fn.out)))
