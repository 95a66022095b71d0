-- What the laws of flights say of frames, their persisting names and a depth.
use Rattle.std.specs.Prelude.{◌≡◌, ◌<◌, ◌*◌, ◌/◌, ℕ, suc, List, Option, Some, slice_get}
use Rattle.flight.specs.Alone.{AreAlone, IsPersisted, RunInTurn, all_flown, alone, persisted_next}
use Rattle.flight.specs.Exported.{export_place, persisted_export}
use Rattle.flight.specs.Flights.{ArePersisted, families_of, persisted_bytes, window_at, window_count}
use Rattle.flight.specs.Fly.{Fly}
use Rattle.frame.specs.Numbered.{numbered}
use Rattle.frame.specs.declared.frame.Frame.{Frame}
use Rattle.frame_meaning.specs.Meaning.{AreMeant}
use Rattle.law_window.specs.InTurn.{frames_in}
use Rattle.law_window.specs.Window.{window}

-- so it is of all frames that fly together
abbrev pub OfFlights : (List Frame → List (List ℕ) → ℕ → Type 0) → Type 0
OfFlights Law = (frames : List Frame) (persist : List (List ℕ)) (depth : ℕ) → Fly frames persist depth → Law frames persist depth

-- each window has the numbers of the window of its frames' numbers
abbrev pub NumbersAgree : List Frame → List (List ℕ) → ℕ → Type 0
NumbersAgree frames persist depth =
    (persisted : List (Option (List ℕ))) → ArePersisted frames persist persisted
    → (w : ℕ) → w < window_count depth frames
    → numbered (window_at frames persist depth persisted w) ≡ window (families_of frames) (frames_in depth (all_flown frames persist) w) (persisted_bytes persisted)

-- where a window begins with what is persisted before its first frame, each of its frames has at the places of its exports what it
-- means alone
abbrev pub ExportsAreAlone : List Frame → List (List ℕ) → ℕ → Type 0
ExportsAreAlone frames persist depth =
    (i : ℕ) (frame : Frame) → slice_get frames i ≡ Some frame
    → (persisted : List (Option (List ℕ))) → IsPersisted frames persist ((i / depth) * depth) persisted
    → (bytes : ℕ → List ℕ) → AreMeant (numbered (window_at frames persist depth persisted (i / depth))) bytes
    → AreMeant (alone frames persist i frame) (λ k. bytes (export_place frames depth i k))

-- and what stands at the places of the persisting names is persisted before the next window
abbrev pub NextIsHeld : List Frame → List (List ℕ) → ℕ → Type 0
NextIsHeld frames persist depth =
    (w : ℕ) → w < window_count depth frames
    → (persisted : List (Option (List ℕ))) → IsPersisted frames persist (w * depth) persisted
    → (bytes : ℕ → List ℕ) → AreMeant (numbered (window_at frames persist depth persisted w)) bytes
    → IsPersisted frames persist (suc w * depth) (persisted_next (persisted_export frames persist depth w) bytes 0 persisted)

-- so it is for all windows in turn
abbrev pub AllAreAlone : List Frame → List (List ℕ) → ℕ → Type 0
AllAreAlone frames persist depth =
    (persisted : ℕ → List (Option (List ℕ))) (bytes : ℕ → ℕ → List ℕ) → RunInTurn frames persist depth persisted bytes
    → AreAlone frames persist depth bytes
