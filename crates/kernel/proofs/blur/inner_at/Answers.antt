use Rattle.std.proofs.Common.{◌≡◌, ◌+◌, ◌-◌, min, arith}
use Rattle.base.specs.Kernels.{three, box3}
use Rattle.kernel.proofs.blur.inner_at.Goals as goal

pub returns : goal.returns
unfolding three box3
returns c =
    let e : min (c.args.x + 1) (c.args.grid.width - 1) ≡ c.args.x + 1 = omega arith in
    rw e c.mean_at.ensures
