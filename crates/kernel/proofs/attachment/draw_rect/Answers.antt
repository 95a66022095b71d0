use Rattle.std.proofs.Common.{ℕ, ◌+◌, ◌%◌, ap, ◌∙◌}
use Rattle.base.specs.Kernels.{mixed}
use Rattle.base.specs.Texels.{modulus, picture}
use Rattle.kernel.proofs.attachment.draw_rect.Goals as goal

pub returns : goal.returns
returns c =
    let rect = c.args.rect.now in
    let t = c.args.grid.texel in
    let old = picture c.args.grid c.args.out.now in
    c.repaint.ensures (λ x y. mixed rect.mix (old x y) (rect.value % modulus t)) (λ x y n hx hy ran.
    ap (λ (k : ℕ). k % modulus t) (ran ∙ ap (λ (v : ℕ). mixed rect.mix (old (rect.x + x) (rect.y + y)) v) c.cut-value.ensures))
