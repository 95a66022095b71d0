use Rattle.std.proofs.Common.{rules}
use Rattle.compile_lifetimes.proofs.Forward.{forward_for}
use Rattle.compile_lifetimes.proofs.reach.add_needs_by.Goals as goal

pub add_between-requires : goal.add_between-requires
add_between-requires c = forward_for c.args.groups.now c.members-uses.ensures.grouped c.args.g c.members-uses.result.now c.members_after-next.result.now c.args.rows.now.count c.requires.g c.members-uses.ensures.members c.members_after-next.ensures c.requires.count (search rules)
