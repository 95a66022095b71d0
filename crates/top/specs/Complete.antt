-- What a call comes to where no read and no write failed, and memory was there.
use Rattle.std.specs.Prelude.{◌≡◌, ℕ, List, Option, Some, None, codes}
use Rattle.std.specs.Io.KnownBytes.{Appends}
use Rattle.device_model.specs.Devices.{Device}
use Rattle.top.specs.Answers.{AnswersLeft}
use Rattle.answer.specs.Statuses.{status_of}
use Rattle.answer.specs.declared.status.Status.{Status}
use Rattle.answer.specs.declared.status.Status.TheVariants.{Words}
use Rattle.top.specs.declared.reply.Reply.{Reply}
use Rattle.cli.specs.declared.command.Command.{Command}

-- the status is that of the answer to the bytes that were left, and its whole text was written
pub record Completes (command : Command) (left old new : Option (List ℕ)) (status : Status) : Type 0 where
  pub reply : Reply
  pub devices : List Device
  pub answers : AnswersLeft command left devices reply
  pub given : status ≡ status_of reply.answer.status
  pub written : Appends old new reply.answer.text

-- the same of words that are no command line: their line was written
abbrev pub IsComplete : Option Command → Option (List ℕ) → Option (List ℕ) → Option (List ℕ) → Status → Type 0
IsComplete (Some command) left old new status = Completes command left old new status
IsComplete None left old new status = (status ≡ Words) × Appends old new (codes "words\n")
