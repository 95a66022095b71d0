-- That a trace which is printed is read again.
use Rattle.std.specs.Prelude.{◌≡◌, ℕ, ◌<◌, ◌≤◌, ◌^◌, List, [], ◌∷◌, length, Option, None, Ok}
use Rattle.device_audit.specs.Trace.{trace_of}
use Rattle.base.specs.declared.event.Event.{Event}
use Rattle.base.specs.declared.event.Event.TheVariants.{Begin, End, Sync, Move, Host}
use Rattle.device_drive.specs.Tended.{tended_moves}
use Rattle.report.specs.Traces.{trace_text}
use Rattle.device_model.specs.Coming.{AllCame}
use Rattle.device_model.specs.Devices.{Device}
use Rattle.device_model.specs.Histories.{moves_in}
use Rattle.program.specs.FirstFault.{first_fault}

-- its numbers are those of an event that there is
abbrev pub HasNumbers : Event → Type 0
HasNumbers (Begin node) = node < 2 ^ 32
HasNumbers (End node) = node < 2 ^ 32
HasNumbers (Sync node) = node < 2 ^ 32
HasNumbers (Host node) = node < 2 ^ 32
HasNumbers (Move m) = (m.agent < 2 ^ 32) × (m.range.memory < 2 ^ 32) × (m.range.start < 2 ^ 32) × (m.range.len < 2 ^ 32)

abbrev pub HaveNumbers : List Event → Type 0
HaveNumbers [] = Unit {0}
HaveNumbers (event ∷ events) = HasNumbers event × HaveNumbers events

-- what is printed of a history is read again as that history
abbrev pub ReadsAgain : Type 0
ReadsAgain = (events : List Event) → length events ≤ 65536 → HaveNumbers events → trace_of (trace_text events) ≡ Ok events

-- and so is that of each device with no more cache moves than a seed gives
abbrev pub HistoriesAreRead : Type 0
HistoriesAreRead = (d : Device) → first_fault d.program ≡ None → AllCame d → length (moves_in d.history) ≤ 256 → trace_of (trace_text d.history) ≡ Ok d.history

-- so that of one whose cache moves are those of a seed, or that has none
abbrev pub TendedAreRead : Type 0
TendedAreRead = (d : Device) (tend : Option ℕ) → first_fault d.program ≡ None → AllCame d → moves_in d.history ≡ tended_moves d.program tend 256 → trace_of (trace_text d.history) ≡ Ok d.history
