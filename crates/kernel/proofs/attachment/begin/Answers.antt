use Rattle.kernel.proofs.Pictures.{painted_back}
use Rattle.kernel.proofs.attachment.begin.Goals as goal

pub returns-in-None : goal.returns-in-None
returns-in-None c = rw c.in-None.is (painted_back c.args.grid c.args.out.now c.type_inv.out c.requires)
