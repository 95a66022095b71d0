use Rattle.base.proofs.Results.{if_ok}
use Rattle.compile.specs.Submitted.{submitted}
use Rattle.frame.specs.Numbered.{numbered}
use Rattle.device_run.proofs.RunLemmas.{runs_on}
use Rattle.device_run.proofs.run.run_good.Goals as goal

pub returns : goal.returns
returns g c =
    if_ok c.run_program.result (λ device has. runs_on c.args.options.tend c.args.tight (numbered c.args.good.now) (submitted c.in_ok-made.made) device c.in_ok-made.ensures has) c.run_program.ensures
