use Rattle.file_program.proofs.Names.{stages_fit}
use Rattle.file_program.proofs.mask.StagesMask.value.Goals as goal

pub returns-clause-fits : goal.returns-clause-fits
returns-clause-fits c = stages_fit _ c.args.text.now c.read.ensures
