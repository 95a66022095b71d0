-- The exit statuses.
use Rattle.std.specs.Prelude.{ℕ}
use Rattle.answer.specs.declared.status.AnswerStatus.{AnswerStatus}
use Rattle.answer.specs.declared.status.AnswerStatus.TheVariants as answers
use Rattle.answer.specs.declared.status.Status.{Status}
use Rattle.answer.specs.declared.status.Status.TheVariants.{Done, Rejected, Refused, Words, ReadFault, WriteFault, NoMemory}

abbrev pub number_of : Status → ℕ
number_of Done = 0
number_of Rejected = 1
number_of Refused = 2
number_of Words = 3
number_of ReadFault = 4
number_of WriteFault = 5
number_of NoMemory = 6

-- how a call ends that wrote an answer whole
abbrev pub status_of : AnswerStatus → Status
status_of answers.Done = Done
status_of answers.Rejected = Rejected
status_of answers.Refused = Refused
status_of answers.Words = Words
