use Rattle.std.proofs.Common.{◌≡◌, ◌∙◌, None, Result, Ok, Err, IfOk, subst}
use Rattle.device_audit.proofs.Saying.{apart, complete, only, run_says}
use Rattle.device_audit.proofs.judging.audit.Goals as goal
use Rattle.device_audit.specs.Verdicts.{Says}
use Rattle.device_audit.specs.declared.verdict.Verdict.{Verdict}
use Rattle.program.specs.FirstFault.{first_fault}
use Rattle.program.specs.declared.program.Program.{Program}

-- what follows from an answer
follows : {E : Type 0} (answer : Result Verdict E) (P Q : Verdict → Type 0) → ((verdict : Verdict) → P verdict → Q verdict) → IfOk answer P → IfOk answer Q
follows (Ok verdict) P Q f p = f verdict p
follows (Err end) P Q f p = tt

pub returns-clause-only : goal.returns-clause-only
returns-clause-only g c = follows c.judged.result (Says c.args.program.now.program c.args.events.now) _ (λ verdict says other. only c.args.program.now.program c.args.events.now verdict other says) c.judged.ensures

pub returns-clause-run : goal.returns-clause-run
returns-clause-run g c = follows c.judged.result (Says c.args.program.now.program c.args.events.now) _ (λ verdict says. run_says c.args.program.now.program c.args.events.now verdict says) c.judged.ensures

pub returns-clause-complete : goal.returns-clause-complete
returns-clause-complete g c = follows c.judged.result (Says c.args.program.now.program c.args.events.now) _ (λ verdict says. complete c.args.program.now.program c.args.events.now verdict says) c.judged.ensures

pub returns-clause-apart : goal.returns-clause-apart
returns-clause-apart g c =
    let none : first_fault c.args.program.now.program ≡ None = subst (λ (p : Program). first_fault p ≡ None) (c.deref.ensures ∙ c.shaped.ensures.program) c.program-faultless.ensures.shaped in
    follows c.judged.result (Says c.args.program.now.program c.args.events.now) _ (λ verdict says. apart c.args.program.now.program c.args.events.now c.device_laws.ensures.runs none verdict says) c.judged.ensures
