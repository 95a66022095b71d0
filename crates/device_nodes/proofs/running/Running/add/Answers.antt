use Rattle.std.proofs.Common.{refl}
use Rattle.device_nodes.proofs.Listing.{added}
use Rattle.device_nodes.proofs.running.Running.add.Goals as goal

pub returns : goal.returns
returns c = λ nodes phase lt idle R. added nodes phase c.args.self.now R c.args.node lt idle _ c.set.ensures refl
