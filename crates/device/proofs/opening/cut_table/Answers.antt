use Rattle.device.proofs.Fitting.{still_fits}
use Rattle.device.proofs.opening.cut_table.Goals as goal

pub returns-clause-fits : goal.returns-clause-fits
returns-clause-fits c = still_fits c.in_ok-table-2.table c.cut_more.new.self c.args.program.now c.args.fill c.cut_more.ensures.keeps c.in_ok-table-2.ensures.fits
