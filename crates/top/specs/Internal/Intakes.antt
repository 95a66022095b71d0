-- What reading the input came to.
use Rattle.std.specs.Prelude.{ℕ, List, ◌++◌, ◌<◌, ◌≤◌, ◌≡◌, length, Some, None}
use Rattle.std.specs.declared.option.Option.{Option}
use Rattle.std.specs.Io.KnownBytes.{Consumes, IsAtEnd, Keeps}
use Rattle.base_io.specs.Counts.{Rose}
use Rattle.answer.specs.Inputs.{limit_of}
use Rattle.top.specs.Outcomes.{Tells, TakesWhole}
use Rattle.answer.specs.declared.files.File.{File}
use Rattle.top.specs.declared.input.Input.{Input}
use Rattle.top.specs.declared.input.Input.TheVariants.{Bytes, Over as Much}
use Rattle.top.specs.declared.intake.Intake.{Intake}
use Rattle.top.specs.declared.intake.Intake.TheVariants.{Whole, Over, Fault, NoMemory}
use Rattle.top.specs.declared.intake.ReadStep.{ReadStep}
use Rattle.top.specs.declared.intake.ReadStep.TheVariants.{More, End, Fault as Fails, NoMemory as Lacks}

-- all the bytes that were left; more than the limit; a read that failed; no memory
abbrev pub IsIntake : ℕ → Option (List ℕ) → Option (List ℕ) → ℕ → ℕ → Intake → Type 0
IsIntake limit left rest before after (Whole bytes) = Tells left bytes.items × (length bytes.items ≤ limit) × TakesWhole limit left rest × (after ≡ before)
IsIntake limit left rest before after Over = ((bytes : List ℕ) × Tells left bytes × (limit < length bytes)) × TakesWhole limit left rest × (after ≡ before)
IsIntake limit left rest before after Fault = Rose before after
IsIntake limit left rest before after NoMemory = after ≡ before

-- some bytes more, at most as many as there was room for; the end; a read that failed; no memory
abbrev pub IsStep : ℕ → Option (List ℕ) → Option (List ℕ) → ℕ → ℕ → List ℕ → List ℕ → ReadStep → Type 0
IsStep room left rest before after old new More = ((more : List ℕ) × (new ≡ old ++ more) × (0 < length more) × (length more ≤ room) × Consumes left rest more) × (after ≡ before)
IsStep room left rest before after old new End = IsAtEnd left × Keeps left rest × (new ≡ old) × (after ≡ before)
IsStep room left rest before after old new Fails = Rose before after
IsStep room left rest before after old new Lacks = after ≡ before

-- all bytes that were left, and the file may have so many; where nothing is read, any bytes
abbrev pub IsRead : Option File → Option (List ℕ) → List ℕ → Type 0
IsRead None left bytes = Unit {0}
IsRead (Some file) left bytes = Tells left bytes × (length bytes ≤ limit_of file)

-- more bytes were left than this file may have
abbrev pub IsMore : Option File → Option (List ℕ) → File → Type 0
IsMore None left other = ⊥
IsMore (Some file) left other = (other ≡ file) × (bytes : List ℕ) × Tells left bytes × (limit_of file < length bytes)

-- what a command has of its input
abbrev pub IsGiven : Option File → Option (List ℕ) → Input → Type 0
IsGiven file left (Bytes bytes) = IsRead file left bytes.items
IsGiven file left (Much other) = IsMore file left other
