-- What is printed of frames that fly, and of those that do not.
use Rattle.std.specs.Prelude.{ℕ, suc, List, [], ◌∷◌, ◌++◌, get_or, unwrap_or}
use Rattle.flight.specs.Alone.{alone}
use Rattle.flight.specs.declared.fault.FlightFault.{FlightFault}
use Rattle.flight.specs.declared.fault.FlightFault.TheVariants as faults
use Rattle.flight_file.specs.declared.refusal.Refusal.{Refusal}
use Rattle.flight_file.specs.declared.refusal.Refusal.TheVariants as refusals
use Rattle.frame.specs.declared.frame.Frame.{Frame}
use Rattle.frame_meaning.specs.Meaning.{meaning}
use Rattle.report.specs.Faults.{frame_fault_text}
use Rattle.report.specs.Flights.{flight_text}
use Rattle.report.specs.declared.flight.FlightLine.TheVariants as lines
use Rattle.compile_file.specs.Exports.{exports_text}

-- what export k of frame i means, where the frames run one after another, each with what those before it left under the
-- persisting names
unfoldable pub bytes_alone : List Frame → List (List ℕ) → ℕ → Frame → ℕ → List ℕ
bytes_alone frames persist i frame k = let run = alone frames persist i frame in unwrap_or (meaning run (get_or run.exports k 0)) []

-- of some of these frames, from frame i on: a line for each, and its exports
abbrev pub frames_text : List Frame → List (List ℕ) → ℕ → List Frame → List ℕ
frames_text frames persist i [] = []
frames_text frames persist i (frame ∷ more) = flight_text (lines.Frame i) ++ (exports_text frame (bytes_alone frames persist i frame) ++ frames_text frames persist (suc i) more)

abbrev pub fault_text : FlightFault → List ℕ
fault_text (faults.Queues frame) = flight_text (lines.Queues frame)
fault_text (faults.Persist frame name) = flight_text (lines.Persist frame name)
fault_text (faults.Window window limit) = flight_text (lines.Window window limit)

abbrev pub refusal_text : Refusal → List ℕ
refusal_text refusals.Count = flight_text lines.Count
refusal_text (refusals.Frame frame fault) = flight_text (lines.FaultOf frame) ++ frame_fault_text fault
refusal_text (refusals.Flight fault) = fault_text fault
