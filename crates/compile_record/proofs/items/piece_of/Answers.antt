use Rattle.compile_record.proofs.Placed.{resource_within, piece_got}
use Rattle.compile_record.proofs.items.piece_of.Goals as goal

pub bounds-resources-r : goal.bounds-resources-r
bounds-resources-r c = resource_within c.args.groups.now c.args.resources.now c.args.r c.requires.resources c.requires.within

pub returns : goal.returns
returns c = piece_got c.args.groups.now c.args.resources.now c.args.r _ c.requires.resources c.requires.within
