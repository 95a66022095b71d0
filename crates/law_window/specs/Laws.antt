-- What the laws of windows say of queues, frames and the bytes that are persisted before them.
use Rattle.std.specs.Prelude.{◌<◌, ◌*◌, ℕ, List, length}
use Rattle.base.specs.declared.shape.Family.{Family}
use Rattle.law_window.specs.Flown.{Flown}
use Rattle.law_window.specs.InTurn.{MeansInTurn, frames_in, persisted_before}
use Rattle.law_window.specs.Small.{IsSmall}
use Rattle.law_window.specs.Together.{FlyTogether}
use Rattle.law_window.specs.Window.{window}

-- so it is of all frames that can be compiled together
abbrev pub OfWindows : (List Family → List ℕ → List Flown → List (List ℕ) → Type 0) → Type 0
OfWindows Law =
    (queues : List Family) (sizes : List ℕ) (frames : List Flown) (persisted : List (List ℕ)) → FlyTogether queues sizes frames persisted
    → Law queues sizes frames persisted

-- the frames of each window of one depth can be compiled together
abbrev pub EachTogether : List Family → List ℕ → List Flown → List (List ℕ) → Type 0
EachTogether queues sizes frames persisted =
    (depth w : ℕ) → 0 < depth → w * depth < length frames
    → FlyTogether queues sizes (frames_in depth frames w) (persisted_before depth frames persisted w)

-- and each such window that is small means what its frames mean one after another
abbrev pub EachMeansInTurn : List Family → List ℕ → List Flown → List (List ℕ) → Type 0
EachMeansInTurn queues sizes frames persisted =
    (depth w : ℕ) → 0 < depth → w * depth < length frames
    → IsSmall (window queues (frames_in depth frames w) (persisted_before depth frames persisted w))
    → MeansInTurn queues depth frames persisted w
