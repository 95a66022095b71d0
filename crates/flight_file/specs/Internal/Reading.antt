-- What the stages of reading come to.
use Rattle.std.specs.Prelude.{◌≡◌, ◌++◌, ℕ, List, Option, Result, Ok, Err}
use Rattle.device_model.specs.Devices.{Device}
use Rattle.flight_file.specs.Files.{frames_of, if_frames}
use Rattle.flight_file.specs.Flights.{FliesFrames}
use Rattle.flight_file.specs.declared.frames.FlightFileError.{FlightFileError}
use Rattle.flight_file.specs.declared.frames.FlightFileError.TheVariants.{Refused, NoMemory}
use Rattle.flight_file.specs.declared.outcome.Outcome.{Outcome}
use Rattle.flight_file.specs.declared.refusal.Refusal.{Refusal}
use Rattle.flight_file.specs.declared.refusal.Refusal.TheVariants.{Frame}
use Rattle.frame.specs.declared.fault.FrameFault.{FrameFault}
use Rattle.frame.specs.declared.frame.Frame.{Frame as Declared}

-- what was to be read, or why not; want of memory says nothing of it
abbrev pub Gives : {X : Type 0} → Result X Refusal → Result X FlightFileError → Type 0
Gives right (Ok value) = right ≡ Ok value
Gives right (Err (Refused refusal)) = right ≡ Err refusal
Gives right (Err NoMemory) = Unit {0}

-- the fault of line i
abbrev pub in_line : ℕ → Result Declared FrameFault → Result Declared Refusal
in_line i (Ok frame) = Ok frame
in_line i (Err fault) = Err (Frame i fault)

-- frames before others
abbrev pub after_frames : List Declared → Result (List Declared) Refusal → Result (List Declared) Refusal
after_frames frames (Ok more) = Ok (frames ++ more)
after_frames frames (Err refusal) = Err refusal

abbrev pub FliesLines : Option ℕ → List (List ℕ) → ℕ → List (List ℕ) → List Device → Outcome → Type 0
FliesLines tend persist depth lines devices outcome = FliesFrames tend persist depth (if_frames persist depth (frames_of 0 lines)) devices outcome
