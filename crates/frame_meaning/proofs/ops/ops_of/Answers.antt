use Rattle.frame.specs.Numbered.{numbered}
use Rattle.frame_meaning.proofs.Remaining.{ops_are}
use Rattle.frame_meaning.proofs.Steps.{runnable_ops}
use Rattle.frame_meaning.proofs.ops.ops_of.Goals as goal

pub returns-clause-runnable : goal.returns-clause-runnable
returns-clause-runnable c = runnable_ops (numbered c.args.frame.now) c.ops.ensures.good c.args.pass c.ops.result.now c.requires c.ops.ensures.ops c.ops.ensures.within

pub returns-clause-at : goal.returns-clause-at
returns-clause-at c = ops_are (numbered c.args.frame.now).passes c.args.pass c.ops.result.now c.requires c.ops.ensures.ops
