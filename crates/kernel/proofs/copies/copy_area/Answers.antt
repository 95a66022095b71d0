use Rattle.std.proofs.Common.{◌+◌, ◌-◌, ◌%◌, ℕ, ap}
use Rattle.base.specs.Texels.{modulus, picture}
use Rattle.kernel.proofs.copies.copy_area.Goals as goal

pub returns : goal.returns
returns c =
    let taken = λ (x y : ℕ). picture c.args.from c.args.src.now (c.args.src_x + (x - c.args.area.left)) (c.args.src_y + (y - c.args.area.top)) in
    c.repaint.ensures taken (λ x y n hx hy ran. ap (λ (k : ℕ). k % modulus c.args.to.texel) ran)
