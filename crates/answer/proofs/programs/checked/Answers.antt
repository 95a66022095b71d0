use Rattle.std.proofs.Common.{subst}
use Rattle.base.proofs.Results.{if_ok}
use Rattle.check_program.specs.Verdicts.{IsCheckError}
use Rattle.answer.proofs.programs.checked.Goals as goal

pub returns-in-Err-Refused-clause-err : goal.returns-in-Err-Refused-clause-err
returns-in-Err-Refused-clause-err c =
    if_ok c.rejection.result (λ answer is. record { hazard = c.in-Err-Refused.hazard; unsound = (subst (IsCheckError c.args.program) c.in-Err-Refused.field-0-is c.in-Err-Refused.ensures.refused).0; whole = is }) c.rejection.ensures
