use Rattle.std.proofs.Common.{◌≡◌, ◌∙◌, None, subst}
use Rattle.program.specs.FirstFault.{first_fault}
use Rattle.program.specs.declared.program.Program.{Program}
use Rattle.device_run.proofs.RunLemmas.{all_alike, all_run}
use Rattle.device_run.proofs.programs.run_laws.Goals as goal

pub returns-clause-runs : goal.returns-clause-runs
returns-clause-runs c =
    all_run c.args.program.now.program c.device_laws.ensures.runs (subst (λ (P : Program). first_fault P ≡ None) (c.deref.ensures ∙ c.shaped.ensures.program) c.program-faultless.ensures.shaped)

pub returns-clause-every : goal.returns-clause-every
returns-clause-every c =
    let P = c.args.program.now.program in
    let faultless : first_fault P ≡ None = subst (λ (Q : Program). first_fault Q ≡ None) (c.deref.ensures ∙ c.shaped.ensures.program) c.program-faultless.ensures.shaped in
    all_alike P c.device_laws.ensures.simulates faultless (all_run P c.device_laws.ensures.runs faultless)
