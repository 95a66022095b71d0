-- What was read and written.
use Rattle.std.specs.Prelude.{ℕ, ◌+◌, ◌≤◌, List, ◌++◌, length, ◌≡◌, ◌⊎◌, Some, None}
use Rattle.std.specs.declared.option.Option.{Option}
use Rattle.std.specs.Io.KnownBytes.{Appends, Consumes, Keeps}
use Rattle.answer.specs.Statuses.{status_of}
use Rattle.answer.specs.declared.status.AnswerStatus.{AnswerStatus}
use Rattle.answer.specs.declared.status.Status.{Status}
use Rattle.answer.specs.declared.status.Status.TheVariants.{ReadFault, WriteFault, NoMemory}

-- these are the bytes that were left, where the source tells them
abbrev pub Tells : Option (List ℕ) → List ℕ → Type 0
Tells None bytes = Unit {0}
Tells (Some left) bytes = left ≡ bytes

-- at most so many bytes were taken from the source
abbrev pub TakesAtMost : ℕ → Option (List ℕ) → Option (List ℕ) → Type 0
TakesAtMost most old new = (taken : List ℕ) × Consumes old new taken × (length taken ≤ most)

-- all that was left in the source was taken, or one byte more than the limit
abbrev pub TakesWhole : ℕ → Option (List ℕ) → Option (List ℕ) → Type 0
TakesWhole limit old new = (taken : List ℕ) × Consumes old new taken × (Tells old taken ⊎ (length taken ≡ limit + 1))

-- a front of the text was taken
abbrev pub TakesFront : List ℕ → Option (List ℕ) → Option (List ℕ) → Type 0
TakesFront text old new = (front : List ℕ) × (rest : List ℕ) × (front ++ rest ≡ text) × Appends old new front

-- the call ended with the wanted status and its whole text, or for a reason beside it: a read fault and want of memory
-- wrote nothing, a write fault a front of the text
abbrev pub EndsAs : AnswerStatus → List ℕ → Option (List ℕ) → Option (List ℕ) → Status → Type 0
EndsAs wanted text old new ReadFault = Keeps old new
EndsAs wanted text old new NoMemory = Keeps old new
EndsAs wanted text old new WriteFault = TakesFront text old new
EndsAs wanted text old new status = (status ≡ status_of wanted) × Appends old new text

-- no answer was found: a read failed, or memory ran out
abbrev pub IsUnanswered : Status → Type 0
IsUnanswered ReadFault = Unit {0}
IsUnanswered NoMemory = Unit {0}
IsUnanswered status = ⊥
