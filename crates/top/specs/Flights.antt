-- What `flight` answers.
use Rattle.std.specs.Prelude.{◌≡◌, ℕ, List, Some}
use Rattle.answer.specs.Plain.{done}
use Rattle.answer.specs.declared.status.AnswerStatus.TheVariants as statuses
use Rattle.device_model.specs.Devices.{Device}
use Rattle.flight_file.specs.Flights.{FliesFile}
use Rattle.flight_file.specs.declared.outcome.Outcome.{Outcome}
use Rattle.flight_file.specs.declared.outcome.Outcome.TheVariants.{Flown, Refused}
use Rattle.top.specs.Replies.{still}
use Rattle.top.specs.declared.reply.Reply.{Reply}
use Rattle.base.specs.declared.run_options.RunOptions.{RunOptions}

-- the text of all frames, and taps are told of all devices, one after another; or why the frames do not fly
abbrev pub reply_of : Outcome → Reply
reply_of (Flown text history) = record { answer = done text; history = Some history }
reply_of (Refused text) = still (record { status = statuses.Refused; text = text })

-- frames, one on each line, that fly together on these devices, or do not fly
pub record FliesBytes (options : RunOptions) (persist : List (List ℕ)) (depth : ℕ) (bytes : List ℕ) (devices : List Device) (reply : Reply) : Type 0 where
  pub outcome : Outcome
  pub flies : FliesFile options.tend persist depth bytes devices outcome
  pub whole : reply ≡ reply_of outcome
