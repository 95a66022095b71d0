-- What the steps of a call come to: a file that is read to be answered, and a text that is written.
use Rattle.std.specs.Prelude.{ℕ, List, ◌≡◌, Bool, true, false, Option, Result, Ok, Err}
use Rattle.std.specs.Io.KnownBytes.{Appends}
use Rattle.base_io.specs.Counts.{Rose}
use Rattle.top.specs.Causes.{ReadCause}
use Rattle.top.specs.Outcomes.{TakesFront}
use Rattle.answer.specs.declared.status.Status.{Status}

-- why a file has no answer: a fault of reading leaves none
abbrev pub ReadsAnswer : {X : Type 0} → ℕ → ℕ → Result X Status → Type 0
ReadsAnswer before after (Ok answer) = after ≡ before
ReadsAnswer before after (Err status) = ReadCause before after status

-- all of the text was taken; or a front of it, and the sink counted a fault
abbrev pub IsWritten : List ℕ → Option (List ℕ) → Option (List ℕ) → ℕ → ℕ → Bool → Type 0
IsWritten text old new before after true = Appends old new text × (after ≡ before)
IsWritten text old new before after false = TakesFront text old new × Rose before after
