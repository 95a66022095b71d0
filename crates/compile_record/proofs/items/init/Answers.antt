use Rattle.compile_record.proofs.Members.{first_unit}
use Rattle.compile_record.proofs.items.init.Goals as goal

pub piece_of-piece-requires-clause-within : goal.piece_of-piece-requires-clause-within
piece_of-piece-requires-clause-within c = first_unit c.args.groups.now c.args.prologue.now.group c.members-after.result.now _ c.members-after.ensures.members c.members-after.ensures.grouped c.requires.known c.requires.group
