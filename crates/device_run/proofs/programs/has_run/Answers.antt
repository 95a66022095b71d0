use Rattle.base.proofs.Results.{if_ok}
use Rattle.device_run.proofs.RunLemmas.{has_run}
use Rattle.device_run.proofs.programs.has_run.Goals as goal

pub returns : goal.returns
returns c =
    let belongs = c.belongs.ensures.0 c.if-not-belongs.false in
    if_ok c.tended.result (λ has moves. (λ is. has_run c.args.program.now.program c.args.tend c.args.device.now c.run_laws.ensures.runs c.run_laws.ensures.every belongs.0 belongs.1 c.history-came.ensures.came (c.complete.ensures.0 c.if-not-complete.false) (moves.0 is), λ has. moves.1 has.moves)) c.tended.ensures
