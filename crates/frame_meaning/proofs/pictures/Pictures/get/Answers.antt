use Rattle.std.proofs.Common.{Some, true, false, ap, ◌∙◌}
use Rattle.frame_meaning.proofs.Marks.{mark_inside, bytes_inside, picture_got}
use Rattle.frame_meaning.proofs.pictures.Pictures.get.Goals as goal

pub index-requires : goal.index-requires
index-requires c = mark_inside c.self.inside.stored c.self.inside.bytes c.args.self.now c.args.unit c.self.view_is c.self.invariant c.requires

pub get-requires : goal.get-requires
get-requires c = bytes_inside c.self.inside.stored c.self.inside.bytes c.args.self.now c.args.unit c.self.view_is c.self.invariant c.requires

pub returns-then-index : goal.returns-then-index
returns-then-index c = ap Some c.get.ensures ∙ picture_got c.self.inside.stored c.self.inside.bytes c.args.self.now c.args.unit c.self.view_is c.self.invariant c.requires c.index.result.now true c.index.ensures c.if-index.true

pub returns-else-index : goal.returns-else-index
returns-else-index c = picture_got c.self.inside.stored c.self.inside.bytes c.args.self.now c.args.unit c.self.view_is c.self.invariant c.requires c.index.result.now false c.index.ensures c.if-index.false
