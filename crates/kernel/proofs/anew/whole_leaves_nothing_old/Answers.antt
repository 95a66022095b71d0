use Rattle.kernel.proofs.WholeLaw.{ignores_old}
use Rattle.kernel.proofs.anew.whole_leaves_nothing_old.Goals as goal

pub returns : goal.returns
returns c = ignores_old
