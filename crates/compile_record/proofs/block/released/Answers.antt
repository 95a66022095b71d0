use Rattle.std.proofs.Common.{◌+◌, ◌≤◌, length, arith}
use Rattle.compile_record.proofs.PrologueFacts.{released_is, last_stays}
use Rattle.compile_record.proofs.block.released.Goals as goal

pub returns-then-group_count-g-clause-is : goal.returns-then-group_count-g-clause-is
returns-then-group_count-g-clause-is g c = released_is c.args.groups.now g.heap c.args.g c.prologue_of.result c.prologue_of.ensures.is

pub returns-else-group_count-g-clause-is : goal.returns-else-group_count-g-clause-is
returns-else-group_count-g-clause-is g c = let le : length c.args.groups.now.groups ≤ c.args.g + 1 = omega arith in last_stays c.args.groups.now g.heap c.args.g le
