use Rattle.std.proofs.Common.{sym, subst}
use Rattle.answer.proofs.AnswerLemmas.{migrated}
use Rattle.answer.proofs.migrate.migrate_frame.Goals as goal
use Rattle.answer.specs.Answers.{MigratesFrame}

pub returns : goal.returns
returns c = record { frame = subst (MigratesFrame c.args.good.now) (sym c.done.ensures) (migrated c.args.good.now c.in_ok-text.text c.end_line.new.self (rw c.frame.ensures.frame at c.in_ok-text.ensures.text) (rw c.frame.ensures.frame at c.in_ok-text.ensures.good) c.frame.ensures.good c.in_ok-end_line.ensures.ok) }
