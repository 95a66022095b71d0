-- What flying comes to.
use Rattle.std.specs.Prelude.{◌≡◌, ◌<◌, ℕ, ◌*◌, ◌/◌, false, List, [], length, slice_get, Option, Some, Result, Ok, Err}
use Rattle.std.specs.List.{flat_map}
use Rattle.flight.specs.Alone.{IsPersisted}
use Rattle.flight.specs.Exported.{export_place}
use Rattle.flight.specs.Flights.{window_at, window_count}
use Rattle.flight_file.specs.Files.{flight_file}
use Rattle.flight_file.specs.Texts.{bytes_alone, frames_text, refusal_text}
use Rattle.flight_file.specs.declared.outcome.Outcome.{Outcome}
use Rattle.flight_file.specs.declared.outcome.Outcome.TheVariants.{Flown, Refused}
use Rattle.flight_file.specs.declared.refusal.Refusal.{Refusal}
use Rattle.frame.specs.Numbered.{numbered}
use Rattle.frame.specs.declared.frame.Frame.{Frame}
use Rattle.device_run.specs.FrameRuns.{RunsOn}
use Rattle.device_run.specs.Runs.{read_by}
use Rattle.device_model.specs.Devices.{Device}

-- Window w begins with what is persisted before its first frame; it is compiled, and the program has run on the device. What is printed
-- of its frames is what that has left.
pub record WindowRun (tend : Option ℕ) (frames : List Frame) (persist : List (List ℕ)) (depth w : ℕ) (device : Device) : Type 0 where
  pub persisted : List (Option (List ℕ))
  pub is_persisted : IsPersisted frames persist (w * depth) persisted
  pub run : RunsOn tend false (numbered (window_at frames persist depth persisted w)) device
  pub printed : (i k : ℕ) (frame : Frame) → slice_get frames i ≡ Some frame → i / depth ≡ w → k < length (numbered frame).exports → bytes_alone frames persist i frame k ≡ read_by device (export_place frames depth i k)

-- Of frames that fly together each window has run on a device of its own, window by window on these. Each frame is printed as it is
-- where the frames run one after another, so the text does not depend on the depth. The history is that of all devices.
pub record Flies (tend : Option ℕ) (persist : List (List ℕ)) (depth : ℕ) (frames : List Frame) (devices : List Device) (outcome : Outcome) : Type 0 where
  pub windows : length devices ≡ window_count depth frames
  pub runs : (w : ℕ) (device : Device) → slice_get devices w ≡ Some device → WindowRun tend frames persist depth w device
  pub whole : outcome ≡ Flown (frames_text frames persist 0 frames) (flat_map (λ d. d.history) devices)

-- the reason is told, and no device has run
pub record IsRefused (refusal : Refusal) (devices : List Device) (outcome : Outcome) : Type 0 where
  pub told : outcome ≡ Refused (refusal_text refusal)
  pub none : devices ≡ []

abbrev pub FliesFrames : Option ℕ → List (List ℕ) → ℕ → Result (List Frame) Refusal → List Device → Outcome → Type 0
FliesFrames tend persist depth (Ok frames) devices outcome = Flies tend persist depth frames devices outcome
FliesFrames tend persist depth (Err refusal) devices outcome = IsRefused refusal devices outcome

-- the outcome of bytes within the limit, and the devices on which their windows have run
abbrev pub FliesFile : Option ℕ → List (List ℕ) → ℕ → List ℕ → List Device → Outcome → Type 0
FliesFile tend persist depth bytes devices outcome = FliesFrames tend persist depth (flight_file persist depth bytes) devices outcome
