use Rattle.base.proofs.Operands.{destination_long}
use Rattle.device.proofs.Sources.{source_long}
use Rattle.device.proofs.running.run_fast.Goals as goal

pub apply_fast-requires-clause-operands : goal.apply_fast-requires-clause-operands
apply_fast-requires-clause-operands g c κs within = c.requires.runnable.operands

pub apply_fast-requires-clause-fits : goal.apply_fast-requires-clause-fits
apply_fast-requires-clause-fits g c κs within = c.requires.runnable.fitting

pub apply_fast-requires-clause-first : goal.apply_fast-requires-clause-first
apply_fast-requires-clause-first g c κs within = source_long c.args.shapes.now c.args.op.now c.args.loaded.now c.requires.runnable 0 c.source.result.now c.source.ensures

pub apply_fast-requires-clause-second : goal.apply_fast-requires-clause-second
apply_fast-requires-clause-second g c κs within = source_long c.args.shapes.now c.args.op.now c.args.loaded.now c.requires.runnable 1 c.source-2.result.now c.source-2.ensures

pub apply_fast-requires-clause-third : goal.apply_fast-requires-clause-third
apply_fast-requires-clause-third g c κs within = source_long c.args.shapes.now c.args.op.now c.args.loaded.now c.requires.runnable 2 c.source-3.result.now c.source-3.ensures

pub apply_fast-requires-clause-out : goal.apply_fast-requires-clause-out
apply_fast-requires-clause-out g c κs within = destination_long c.args.shapes.now c.args.op.now _ c.requires.out
