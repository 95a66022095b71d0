use Rattle.std.proofs.Common.{arith}
use Rattle.frame_cull.proofs.Begin.{begins_at, long}
use Rattle.frame_cull.proofs.Pop.{row_within, row_enough, counts_after, total_falls, ends}
use Rattle.frame_cull.proofs.counts.needed.Goals as goal

pub lose-requires-clause-within : goal.lose-requires-clause-within
lose-requires-clause-within c = row_within c.args.sources.now c.args.roots.now c.loop-pass.refs c.loop-pass.stack c.pop.new.self c.pop.result c.in-Some.pass c.index-sources-pass.result c.deref-in-Some.result.now c.requires.forward c.loop-pass.invariant c.pop.ensures.items c.in-Some.is c.index-sources-pass.is c.deref-in-Some.ensures

pub lose-requires-clause-enough : goal.lose-requires-clause-enough
lose-requires-clause-enough c = row_enough c.args.sources.now c.args.roots.now c.loop-pass.refs c.loop-pass.stack c.pop.new.self c.pop.result c.in-Some.pass c.index-sources-pass.result c.deref-in-Some.result.now c.requires.forward c.loop-pass.invariant c.pop.ensures.items c.in-Some.is c.index-sources-pass.is c.deref-in-Some.ensures

pub loop-pass-smaller : goal.loop-pass-smaller
loop-pass-smaller c = total_falls c.args.sources.now c.args.roots.now c.loop-pass.refs c.loop-pass.stack c.pop.new.self c.pop.result c.in-Some.pass c.index-sources-pass.result c.deref-in-Some.result.now c.requires.forward c.loop-pass.invariant c.pop.ensures.items c.in-Some.is c.index-sources-pass.is c.deref-in-Some.ensures c.lose.new.refs c.lose.new.stack c.in_ok-lose.ensures.refs c.in_ok-lose.ensures.stack

pub loop-pass-preserved : goal.loop-pass-preserved
loop-pass-preserved c = counts_after c.args.sources.now c.args.roots.now c.loop-pass.refs c.loop-pass.stack c.pop.new.self c.pop.result c.in-Some.pass c.index-sources-pass.result c.deref-in-Some.result.now c.requires.forward c.loop-pass.invariant c.pop.ensures.items c.in-Some.is c.index-sources-pass.is c.deref-in-Some.ensures c.lose.new.refs c.lose.new.stack c.in_ok-lose.ensures.refs c.in_ok-lose.ensures.stack

pub loop-pass-init : goal.loop-pass-init
loop-pass-init c = begins_at c.args.sources.now c.args.roots.now c.in_ok-refs.refs c.deref.result.now c.in_ok-stack.stack c.requires.size c.requires.forward c.in_ok-refs.ensures c.deref.ensures c.in_ok-stack.ensures

pub returns-clause-needed : goal.returns-clause-needed
returns-clause-needed c = ends c.args.sources.now c.args.roots.now c.loop-pass.refs c.loop-pass.stack c.pop.new.self c.pop.result c.requires.forward c.loop-pass.invariant c.pop.ensures.items c.in_default.is c.pop.ensures.none

pub idle-requires : goal.idle-requires
idle-requires c = let size = long c.args.sources.now c.args.roots.now c.in_ok-refs.refs c.deref.result.now c.requires.size c.in_ok-refs.ensures c.deref.ensures in omega (arith, size, c.requires.few)
