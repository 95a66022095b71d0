use Rattle.compile.proofs.compiling.right_for.Goals as goal
use Rattle.frame.specs.Numbered.{numbered}

pub returns-clause-right : goal.returns-clause-right
returns-clause-right c = λ made are_kept compiled. c.compile_law.ensures.right (numbered c.args.frame.now) made c.frame.ensures.numbers are_kept compiled

pub returns-clause-in_order : goal.returns-clause-in_order
returns-clause-in_order c = λ made are_kept compiled. c.compile_law.ensures.in_order (numbered c.args.frame.now) made c.frame.ensures.numbers are_kept compiled
