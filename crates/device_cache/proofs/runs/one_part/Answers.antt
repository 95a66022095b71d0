use Rattle.std.proofs.Common.{arith}
use Rattle.device_cache.proofs.runs.one_part.Goals as goal

pub run_at-run-requires-clause-lines : goal.run_at-run-requires-clause-lines
run_at-run-requires-clause-lines c = c.requires.lines c.loop-at.at (omega (arith, c.loop-at.invariant.from)) (omega (arith, c.loop-at-test.true))
