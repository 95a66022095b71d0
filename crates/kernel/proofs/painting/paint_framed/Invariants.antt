use Rattle.std.proofs.Common.{◌≡◌, ℕ, ◌+◌, ◌*◌, ◌%◌}
use Rattle.base.specs.Texels.{modulus, texel_at}
use Rattle.kernel.specs.Closures.{GivesOnly}
use Rattle.kernel.proofs.Numbers.{AreBytes}
use Rattle.kernel.proofs.Rows.{IsImage, IsFramed}
use Rattle.kernel.proofs.painting.paint_framed.Given as goal

abbrev pub invariant-loop-y : goal.invariant-loop-y
invariant-loop-y g l =
    (l.start ≡ l.y * l.width)
    × AreBytes l.out
    × ((p : ℕ → ℕ → ℕ) → GivesOnly (goal.F-post g l.inner) l.texel l.width l.first l.count p → GivesOnly (goal.G-post g l.edge) l.texel l.width l.first l.count p → IsImage (texel_at l.texel l.out) l.width l.y (λ x y. p x (l.first + y) % modulus l.texel))

abbrev pub invariant-loop-x : goal.invariant-loop-x
invariant-loop-x g l =
    AreBytes l.out
    × ((p : ℕ → ℕ → ℕ) → GivesOnly (goal.F-post g l.inner) l.texel l.width l.first l.count p → GivesOnly (goal.G-post g l.edge) l.texel l.width l.first l.count p → IsFramed (texel_at l.texel l.out) l.width l.y l.x (λ x y. p x (l.first + y) % modulus l.texel))
