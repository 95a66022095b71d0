use Rattle.std.proofs.Common.{None, Some, ap, sym, ◌∙◌}
use Rattle.frame.proofs.Owned.{has_owner, import_got}
use Rattle.frame.proofs.valid.ValidFrame.import.Goals as goal

pub index-owner-requires : goal.index-owner-requires
index-owner-requires c = has_owner c.self.inside.frame c.args.self.now c.self.inside.resolved c.args.unit c.self.view_is c.self.invariant.1 c.requires

pub returns-in-Some : goal.returns-in-Some
returns-in-Some c = import_got c.self.inside.frame c.args.self.now c.self.inside.resolved c.args.unit c.index-owner.result.now c.index.result.now (Some c.as_slice.result.now) c.self.view_is c.self.invariant.1 c.requires c.index-owner.ensures c.index.ensures (ap Some c.as_slice.ensures ∙ sym c.in-Some.is)

pub returns-in-None : goal.returns-in-None
returns-in-None c = import_got c.self.inside.frame c.args.self.now c.self.inside.resolved c.args.unit c.index-owner.result.now c.index.result.now None c.self.view_is c.self.invariant.1 c.requires c.index-owner.ensures c.index.ensures (sym c.in-None.is)
