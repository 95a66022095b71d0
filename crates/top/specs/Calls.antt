-- What a call of the program comes to.
use Rattle.std.specs.Prelude.{◌≡◌, ◌⊎◌, List, [], Option, Some, None, codes}
use Rattle.base_io.specs.Counts.{Rose}
use Rattle.device_model.specs.Devices.{Device}
use Rattle.top.specs.Answers.{IsAnswered}
use Rattle.top.specs.Causes.{ReadCause, WriteCause}
use Rattle.top.specs.Complete.{IsComplete}
use Rattle.top.specs.Ends.{Ends}
use Rattle.top.specs.Takes.{TakesAll, TakesFew, file_in}
use Rattle.base.specs.declared.event.Event.{Event}
use Rattle.top.specs.Outcomes.{EndsAs, IsUnanswered}
use Rattle.answer.specs.declared.status.AnswerStatus.TheVariants as answers
use Rattle.answer.specs.declared.status.Status.{Status}
use Rattle.answer.specs.declared.status.Status.TheVariants.{NoMemory}
use Rattle.cli.specs.declared.command.Command.{Command}

-- the command of the words, the ends before the call and after it, what taps were told of devices, which devices were kept, and
-- the status
pub record Call (line : Option Command) (before after : Ends) (told : Option (List Event) → Type 0) (kept : List Device → Type 0) (status : Status) : Type 0 where
  -- words that are no command line
  pub words : line ≡ None → EndsAs answers.Words (codes "words\n") before.written after.written status × told None × kept []
  -- a command: its answer to the bytes that were left is written
  pub answered : (command : Command) → line ≡ Some command → IsAnswered command before.left before.written after.written told kept status
  -- no more of its file is read than one byte over the limit, and where there is an answer all of it is, or that one byte more
  pub taken : TakesFew (file_in line) before.left after.left
  pub whole : ¬ IsUnanswered status → TakesAll (file_in line) before.left after.left
  -- a count of faults rises exactly with its status
  pub read : ReadCause before.read_faults after.read_faults status
  pub write : WriteCause before.write_faults after.write_faults status
  -- where no read and no write fails, the status is that of the answer and its whole text is written, unless memory ran out
  pub complete : ¬ Rose before.read_faults after.read_faults → ¬ Rose before.write_faults after.write_faults → (status ≡ NoMemory) ⊎ IsComplete line before.left before.written after.written status
