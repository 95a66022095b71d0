-- The frames one after another, each alone, with bytes that persist from one to the next under names.
use Rattle.std.specs.Prelude.{◌≡◌, ◌<◌, ◌/◌, ℕ, suc, List, [], ◌∷◌, map, take, Option, Some, None, slice_get, unwrap_or}
use Rattle.std.specs.Option.{option_map, option_map_or}
use Rattle.base.specs.Walks.{first_in}
use Rattle.flight.specs.Exported.{export_place, persisted_export}
use Rattle.flight.specs.Flights.{ArePersisted, all_declared, persisted_bytes, window_at, window_count}
use Rattle.frame.specs.Numbered.{NumberedFrame, numbered}
use Rattle.frame.specs.declared.frame.Frame.{Frame}
use Rattle.frame_meaning.specs.Meaning.{AreMeant}
use Rattle.law_window.specs.Declared.{declared_in, flown_of, holder_in}
use Rattle.law_window.specs.Flown.{Flown, holding}
use Rattle.law_window.specs.Persisted.{persisted_after}

abbrev pub all_flown : List Frame → List (List ℕ) → List Flown
all_flown frames persist = map flown_of (all_declared frames persist)

-- HELD BYTES

-- the import that a frame has under a name, if it has the name
abbrev pub import_under : List ℕ → ℕ → Frame → Option (List ℕ)
import_under name i frame = option_map (λ k. option_map_or (λ r. unwrap_or r.import []) (slice_get frame.resources k) []) (holder_in frame.resources name)

-- for each persisting name the import of the first frame that has the name, and none where no frame has it
abbrev pub first_bytes : List Frame → List (List ℕ) → List (Option (List ℕ))
first_bytes frames persist = map (λ name. first_in (import_under name) 0 frames) persist

-- what is persisted before frame i: what the frames before it left, one after another, under the persisting names that they have
abbrev pub held_at : List Frame → List (List ℕ) → ℕ → List (List ℕ)
held_at frames persist i = persisted_after (take i (all_flown frames persist)) (persisted_bytes (first_bytes frames persist))

-- frame i alone: the imports under persisting names are what is persisted before it
abbrev pub alone : List Frame → List (List ℕ) → ℕ → Frame → NumberedFrame
alone frames persist i frame = holding (held_at frames persist i) (flown_of (declared_in persist frame))

-- these are persisted before frame i
pub record IsPersisted (frames : List Frame) (persist : List (List ℕ)) (i : ℕ) (persisted : List (Option (List ℕ))) : Type 0 where
  pub sized : ArePersisted frames persist persisted
  pub bytes : persisted_bytes persisted ≡ held_at frames persist i

-- WINDOW AFTER WINDOW

-- what is read at a place; what was persisted, where there is none
abbrev pub held_one : (ℕ → List ℕ) → Option ℕ → Option (List ℕ) → Option (List ℕ)
held_one bytes None old = old
held_one bytes (Some place) old = Some (bytes place)

-- what is persisted for persisting names k and those after it, where each name is read at its place
abbrev pub persisted_next : (ℕ → Option ℕ) → (ℕ → List ℕ) → ℕ → List (Option (List ℕ)) → List (Option (List ℕ))
persisted_next places bytes k [] = []
persisted_next places bytes k (old ∷ persisted) = held_one bytes (places k) old ∷ persisted_next places bytes (suc k) persisted

-- Windows run one after another: before the first one imports are persisted, each window exports these bytes, and what its names have
-- at their places is persisted before the next.
pub record RunInTurn (frames : List Frame) (persist : List (List ℕ)) (depth : ℕ) (persisted : ℕ → List (Option (List ℕ))) (bytes : ℕ → ℕ → List ℕ) : Type 0 where
  pub first : persisted 0 ≡ first_bytes frames persist
  pub read : (w : ℕ) → w < window_count depth frames → AreMeant (numbered (window_at frames persist depth (persisted w) w)) (bytes w)
  pub next : (w : ℕ) → w < window_count depth frames → persisted (suc w) ≡ persisted_next (persisted_export frames persist depth w) (bytes w) 0 (persisted w)

-- Each export of each frame has, at its place in its window, what it means in the frame alone.
abbrev pub AreAlone : List Frame → List (List ℕ) → ℕ → (ℕ → ℕ → List ℕ) → Type 0
AreAlone frames persist depth bytes = (i : ℕ) (frame : Frame) → slice_get frames i ≡ Some frame → AreMeant (alone frames persist i frame) (λ k. bytes (i / depth) (export_place frames depth i k))
