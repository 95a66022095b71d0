-- What has flown so far.
use Rattle.std.specs.Prelude.{◌≡◌, ◌<◌, ℕ, ◌+◌, ◌*◌, ◌/◌, ◌++◌, List, [], ◌∷◌, length, slice_get, take, Option, Some}
use Rattle.std.specs.List.{flat_map}
use Rattle.flight.specs.Alone.{IsPersisted, persisted_next}
use Rattle.flight.specs.Exported.{export_place, persisted_export}
use Rattle.flight.specs.Flight.{Flight}
use Rattle.flight.specs.Flights.{ArePersisted, window_at}
use Rattle.flight_file.specs.Flights.{WindowRun}
use Rattle.flight_file.specs.Texts.{bytes_alone, frames_text}
use Rattle.flight_file.specs.declared.flying.Flying.{Flying}
use Rattle.frame.specs.Numbered.{numbered}
use Rattle.frame.specs.declared.frame.Frame.{Frame}
use Rattle.device_run.specs.Runs.{read_by}
use Rattle.device_model.specs.Devices.{Device, IsComplete}

-- the windows of all these frames, so many frames in each
pub record AreWindows (all : List Frame) (each : ℕ) (flight : Flight) : Type 0 where
  pub frames : flight.frames ≡ all
  pub depth : flight.depth ≡ each

-- the lines of the first frames
abbrev pub text_before : Flight → ℕ → List ℕ
text_before flight i = frames_text flight.frames flight.persist 0 (take i flight.frames)

-- the windows before window w have run on these devices
pub record IsFlown (tend : Option ℕ) (flight : Flight) (w : ℕ) (devices : List Device) (flying : Flying) : Type 0 where
  pub windows : length devices ≡ w
  pub runs : (v : ℕ) (device : Device) → slice_get devices v ≡ Some device → WindowRun tend flight.frames flight.persist flight.depth v device
  pub persisted : IsPersisted flight.frames flight.persist (w * flight.depth) flying.persisted
  pub text : flying.text ≡ text_before flight (w * flight.depth)
  pub history : flying.history ≡ flat_map (λ d. d.history) devices

-- with this device those of the windows before window w are those of the windows before the next
abbrev pub FliesOn : Option ℕ → Flight → ℕ → Device → Flying → Flying → Type 0
FliesOn tend flight w device old new = (devices : List Device) → IsFlown tend flight w devices old → IsFlown tend flight (w + 1) (devices ++ device ∷ []) new

-- all that window w exports can be read on the device; the window began with these bytes
pub record CanRead (flight : Flight) (w : ℕ) (persisted : List (Option (List ℕ))) (device : Device) : Type 0 where
  pub complete : IsComplete device
  pub sized : ArePersisted flight.frames flight.persist persisted
  pub readbacks : length device.program.readbacks ≡ length (numbered (window_at flight.frames flight.persist flight.depth persisted w)).exports

-- what is printed of frame i stands on the device of its window
pub record Prints (flight : Flight) (i : ℕ) (device : Device) : Type 0 where
  pub persisted : List (Option (List ℕ))
  pub read : CanRead flight (i / flight.depth) persisted device
  pub printed : (k : ℕ) (frame : Frame) → slice_get flight.frames i ≡ Some frame → k < length (numbered frame).exports → bytes_alone flight.frames flight.persist i frame k ≡ read_by device (export_place flight.frames flight.depth i k)

-- what window w has left on its device is gathered
pub record IsGathered (flight : Flight) (w : ℕ) (device : Device) (old new : Flying) : Type 0 where
  pub text : new.text ≡ text_before flight ((w + 1) * flight.depth)
  pub history : new.history ≡ old.history ++ device.history
  pub persisted : new.persisted ≡ persisted_next (persisted_export flight.frames flight.persist flight.depth w) (read_by device) 0 old.persisted
