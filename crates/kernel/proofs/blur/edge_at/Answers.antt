use Rattle.base.specs.Kernels.{three, box3}
use Rattle.kernel.proofs.blur.edge_at.Goals as goal

pub returns : goal.returns
unfolding three box3
returns c = rw (c.saturating_sub.ensures, c.after.ensures.value) at c.mean_at.ensures
