use Rattle.base_first.proofs.Words.{set_same, set_other}
use Rattle.base_first.proofs.word.with.Goals as goal

pub returns-clause-own : goal.returns-clause-own
returns-clause-own c = set_same c.args.set c.args.c c.requires.c

pub returns-clause-others : goal.returns-clause-others
returns-clause-others c = λ d ne. set_other c.args.set c.args.c d c.requires.c ne
