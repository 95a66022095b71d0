use Rattle.std.proofs.Common.{◌∙◌, ap}
use Rattle.base.specs.Shapes.{shape_at}
use Rattle.compile_record.proofs.Places.{piece_is, place_within}
use Rattle.compile_record.proofs.pieces.piece.Goals as goal

pub offset_of-requires : goal.offset_of-requires
offset_of-requires c = place_within c.args.groups.now c.args.placement.now.offsets c.args.r c.args.resource c.requires.resource c.requires.piece c.requires.placement

pub returns : goal.returns
returns c = piece_is c.args.groups.now c.args.placement.now.offsets c.args.r c.args.resource c.shape_at.result c.offset_of.result c.sharing_of.result c.requires.resource c.requires.piece (c.shape_at.ensures ∙ ap (λ shapes. shape_at shapes c.args.r) c.shapes.ensures) c.offset_of.ensures c.sharing_of.ensures
