use Rattle.file_program.proofs.Names.{accesses_fit}
use Rattle.file_program.proofs.mask.AccessesMask.value.Goals as goal

pub returns-clause-fits : goal.returns-clause-fits
returns-clause-fits c = accesses_fit _ c.args.text.now c.read.ensures
