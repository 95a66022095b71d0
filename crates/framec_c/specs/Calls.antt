-- What a call from C comes to.
use Rattle.std.specs.Prelude.{ℕ, ℤ, pos, ◌≡◌, ◌⊎◌, List, ◌++◌, length, drop, nat_le, if◌then◌else◌}
use Rattle.answer.specs.Answers.{Answers}
use Rattle.answer.specs.Statuses.{number_of, status_of}
use Rattle.answer.specs.declared.answer.Answer.{Answer}
use Rattle.answer.specs.declared.status.Status.TheVariants.{NoMemory}
use Rattle.cli.specs.declared.command.Command.{Command}

-- a text that fits stands at the front of the room, and the room behind it is as it was; for one that does not fit all of the
-- room is as it was
abbrev pub placed : List ℕ → List ℕ → List ℕ
placed text room = if nat_le (length text) (length room) then text ++ drop (length text) room else room

-- the number of the answer's status, the length of its text, and the text where there is room for all of it
pub record IsGiven (command : Command) (bytes old new : List ℕ) (wanted : ℕ) (number : ℤ) : Type 0 where
  pub answer : Answer
  pub answers : Answers command bytes answer
  pub given : number ≡ pos (number_of (status_of answer.status))
  pub counted : wanted ≡ length answer.text
  pub in_room : new ≡ placed answer.text old

-- memory ran out, and there is no text
pub record IsLacking (old new : List ℕ) (wanted : ℕ) (number : ℤ) : Type 0 where
  pub lacking : number ≡ pos (number_of NoMemory)
  pub none : wanted ≡ 0
  pub kept : new ≡ old

-- the command's answer to the bytes, or want of memory; nothing else ends a call
abbrev pub Gives : Command → List ℕ → List ℕ → List ℕ → ℕ → ℤ → Type 0
Gives command bytes old new wanted number = IsGiven command bytes old new wanted number ⊎ IsLacking old new wanted number
