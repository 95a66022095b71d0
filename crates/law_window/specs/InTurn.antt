-- Frames that run in windows of one depth mean what they mean one after another.
use Rattle.std.specs.Prelude.{◌≡◌, ◌<◌, ◌+◌, ◌*◌, ℕ, suc, List, drop, take, Some, slice_get}
use Rattle.base.specs.declared.shape.Family.{Family}
use Rattle.frame_meaning.specs.Meaning.{meaning}
use Rattle.law_window.specs.Flown.{Flown, holding}
use Rattle.law_window.specs.Persisted.{persisted_after}
use Rattle.law_window.specs.Means.{ArePersisted, IsExport, IsLeft}
use Rattle.law_window.specs.Sources.{given, last_sources}

-- the frames of window w, as far as they exist
abbrev pub frames_in : {X : Type 0} → ℕ → List X → ℕ → List X
frames_in depth frames w = take depth (drop (w * depth) frames)

-- what is persisted before window w, where these bytes are persisted before all frames
abbrev pub persisted_before : ℕ → List Flown → List (List ℕ) → ℕ → List (List ℕ)
persisted_before depth frames persisted w = persisted_after (take (w * depth) frames) persisted

-- of window w: export k of its frame j means what it means in that frame, begun with what is persisted after all frames before
-- it; and the units of the persisting names mean what is persisted before the next window
pub record MeansInTurn (queues : List Family) (depth : ℕ) (frames : List Flown) (persisted : List (List ℕ)) (w : ℕ) : Type 0 where
  pub exports : (j k : ℕ) (flown : Flown) (unit : ℕ) → j < depth → slice_get frames (w * depth + j) ≡ Some flown → slice_get flown.frame.exports k ≡ Some unit → IsExport queues (frames_in depth frames w) (persisted_before depth frames persisted w) j k unit (meaning (holding (persisted_after (take (w * depth + j) frames) persisted) flown) unit)
  pub left : ArePersisted (IsLeft queues (frames_in depth frames w) (persisted_before depth frames persisted w)) (last_sources 0 (given (persisted_before depth frames persisted w)) (frames_in depth frames w)) (persisted_before depth frames persisted (suc w))
