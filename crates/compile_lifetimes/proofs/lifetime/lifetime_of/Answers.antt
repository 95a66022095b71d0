use Rattle.std.proofs.Common.{rules}
use Rattle.compile_lifetimes.proofs.Sides.{some_before, lifetime_for}
use Rattle.compile_lifetimes.proofs.lifetime.lifetime_of.Goals as goal

pub overflow_sub-result : goal.overflow_sub-result
overflow_sub-result c = some_before c.args.groups.now c.args.unit c.from-unit.result c.start_of-2.result (search rules) c.start_of-2.ensures c.requires

pub returns : goal.returns
returns c = lifetime_for c.args.groups.now c.args.unit c.from-unit.result c.start_of.result c.start_of-2.result (search rules) c.start_of.ensures c.start_of-2.ensures c.requires
