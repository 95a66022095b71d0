use Rattle.std.proofs.Common.{arith, ◌<◌, ◌-◌, length}
use Rattle.compile_record.proofs.Members.{first_unit, first_queue, last_queue}
use Rattle.compile_record.proofs.items.transfer_to.Goals as goal

pub piece_of-piece-requires-clause-within : goal.piece_of-piece-requires-clause-within
piece_of-piece-requires-clause-within c = first_unit c.args.groups.now c.args.g c.members-after.result.now _ c.members-after.ensures.members c.members-after.ensures.grouped c.requires.known c.requires.group

pub transfer-requires-clause-from : goal.transfer-requires-clause-from
transfer-requires-clause-from c = let lt : c.args.g - 1 < length c.args.groups.now.groups = omega (arith, c.requires.group) in last_queue c.args.groups.now (c.args.g - 1) c.members-before.result.now c.members-before.ensures.members c.members-before.ensures.grouped c.requires.known lt

pub transfer-requires-clause-to : goal.transfer-requires-clause-to
transfer-requires-clause-to c = first_queue c.args.groups.now c.args.g c.members-after.result.now c.members-after.ensures.members c.members-after.ensures.grouped c.requires.known c.requires.group
