-- Answers, with what devices did for them.
use Rattle.std.specs.Prelude.{◌≡◌, ℕ, List, [], Some, None}
use Rattle.answer.specs.Plain.{done}
use Rattle.answer.specs.declared.answer.Answer.{Answer}
use Rattle.device_model.specs.Devices.{Device}
use Rattle.top.specs.declared.reply.Reply.{Reply}

-- taps are told nothing
abbrev pub still : Answer → Reply
still answer = record { answer = answer; history = None }

-- a device has run: its history is what taps are told
abbrev pub ran : Device → List ℕ → Reply
ran device text = record { answer = done text; history = Some device.history }

-- an answer of which this holds: taps are told nothing, and no device has run
pub record IsStill (Holds : Answer → Type 0) (devices : List Device) (reply : Reply) : Type 0 where
  pub answer : Holds reply.answer
  pub untold : reply.history ≡ None
  pub none : devices ≡ []
