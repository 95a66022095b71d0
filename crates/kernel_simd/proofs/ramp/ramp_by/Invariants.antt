use Rattle.std.proofs.Common.{◌≡◌, ◌+◌, ◌*◌, take}
use Rattle.base.specs.Texels.{band}
use Rattle.kernel_simd.proofs.ramp.ramp_by.Given as goal

abbrev pub invariant-loop-y : goal.invariant-loop-y
invariant-loop-y l = take (l.row * l.y) l.out ≡ band l.texel l.width l.first l.y (λ x y. l.base + x * l.dx + y * l.dy)
