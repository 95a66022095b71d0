use Rattle.std.proofs.Common.{IfOk, subst}
use Rattle.frame.specs.declared.frame.Frame.{Frame}
use Rattle.answer.proofs.generating.generate_frame.Goals as goal
use Rattle.answer.specs.Answers.{MigratesFrame}

pub returns : goal.returns
returns c = record { frame = subst (λ (f : Frame). IfOk c.migrate_frame.result (MigratesFrame f)) c.in_ok-good.ensures c.migrate_frame.ensures.frame }
