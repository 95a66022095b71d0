use Rattle.compile_lifetimes.proofs.Sides.{unit_for}
use Rattle.compile_lifetimes.proofs.lifetime.unit_of.Goals as goal

pub returns : goal.returns
returns c = unit_for c.args.groups.now c.members.ensures.grouped c.args.g c.members.result.now _ c.requires c.members.ensures.members
