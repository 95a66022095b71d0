use Rattle.std.proofs.Common.{subst, sym, inl}
use Rattle.base.proofs.Results.{if_ok}
use Rattle.check_program.specs.Sound.{IsSound}
use Rattle.program.specs.declared.program.Program.{Program}
use Rattle.top.proofs.audit.audit_events.Goals as goal
use Rattle.top.specs.Audits.{Judges}

pub judge-requires-clause-sound : goal.judge-requires-clause-sound
judge-requires-clause-sound g c κs lives = subst IsSound (sym c.in-Ok.ensures.ok.0) c.in-Ok.ensures.ok.1

pub returns-in-Ok : goal.returns-in-Ok
returns-in-Ok g c = record {
  program =
      if_ok c.judge.result (λ answer is. inl (subst (λ (p : Program). Judges p c.args.events.now answer) c.in-Ok.ensures.ok.0 is)) c.judge.ensures.judges;
}
