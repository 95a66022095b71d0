-- Frames that fly in windows.
use Rattle.std.specs.Prelude.{◌≡◌, ◌≤◌, ◌<◌, ℕ, List, length, Option, Some, None}
use Rattle.std.specs.List.{All}
use Rattle.flight.specs.Refusals.{first_refusal}
use Rattle.flight.specs.declared.fault.FlightError.{FlightError}
use Rattle.flight.specs.declared.fault.FlightError.TheVariants.{Refused, NoMemory}
use Rattle.flight.specs.declared.fault.FlightFault.{FlightFault}
use Rattle.frame.specs.FirstFault.{first_fault}
use Rattle.frame.specs.Repeats.{first_repeat}
use Rattle.frame.specs.declared.frame.Frame.{Frame}

-- frames without a fault that nothing keeps from flying together
pub record Fly (frames : List Frame) (persist : List (List ℕ)) (depth : ℕ) : Type 0 where
  pub some : 0 < length frames
  pub few : length frames ≤ 64
  pub deep : 1 ≤ depth
  pub shallow : depth ≤ 8
  pub names : length persist ≤ 16
  pub different : first_repeat persist ≡ None
  pub good : All (λ frame. first_fault frame ≡ None) frames
  pub none : first_refusal frames persist depth ≡ None

-- want of memory says nothing of the frames
abbrev pub EndsAs : Option FlightFault → FlightError → Type 0
EndsAs right (Refused fault) = right ≡ Some fault
EndsAs right NoMemory = Unit {0}
