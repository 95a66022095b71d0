use Rattle.std.proofs.Common.{subst}
use Rattle.check_sync.specs.First.{DecidesSynchronized, FindsFirst}
use Rattle.check_program.proofs.Verdicts.{sync_hazard_found}
use Rattle.check_program.proofs.judge.first_in_accesses.Goals as goal

pub returns-in-Some : goal.returns-in-Some
returns-in-Some c =
    sync_hazard_found c.args.view.now c.args.accesses.now c.in-Some.sync_hazard
    (subst (λ o. FindsFirst c.args.view.now c.args.accesses.now o) c.in-Some.is c.in_ok-sync_hazard.ensures.first)
    (subst (λ o. DecidesSynchronized c.args.view.now c.args.accesses.now o) c.in-Some.is c.in_ok-sync_hazard.ensures.synchronized)
