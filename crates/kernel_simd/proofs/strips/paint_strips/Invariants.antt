use Rattle.std.proofs.Common.{◌≡◌, ℕ, ◌*◌, ◌≤◌, length}
use Rattle.std.specs.Prelude.{vec_capacity}
use Rattle.base.specs.Shapes.{texel_bytes}
use Rattle.base.specs.Texels.{band}
use Rattle.kernel_simd.specs.Internal.Painters.{Paints}
use Rattle.kernel_simd.proofs.strips.paint_strips.Given as goal

abbrev pub invariant-loop-strip : goal.invariant-loop-strip
invariant-loop-strip g l =
    ((p : ℕ → ℕ → ℕ) → Paints (goal.F-post g l.f) l.texel l.width 0 l.height p → l.memory.items ≡ band l.texel l.width 0 (l.strip * l.rows) p)
    × (length l.memory.items ≡ texel_bytes l.texel * (l.width * (l.strip * l.rows)))
    × (texel_bytes l.texel * (l.width * l.height) ≤ vec_capacity l.memory)
