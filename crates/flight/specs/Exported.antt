-- Which units a window exports, and where among them they stand.
use Rattle.std.specs.Prelude.{ℕ, suc, Bool, List, [], ◌∷◌, ◌++◌, ◌+◌, ◌*◌, ◌/◌, ◌%◌, ◌==◌, map, length, take, drop, Option, Some, None, slice_get, option_and_then, option_to_list, is_some, if◌then◌else◌}
use Rattle.std.specs.Option.{option_map, option_or}
use Rattle.frame.specs.Numbered.{numbered}
use Rattle.frame.specs.declared.frame.Frame.{Frame}
use Rattle.law_window.specs.Declared.{holder_in, unit_at}
use Rattle.law_window.specs.InTurn.{frames_in}
use Rattle.law_window.specs.Window.{others}

abbrev pub unit_count : Frame → ℕ
unit_count frame = length (numbered frame).units

-- the exported units of frames whose units begin at n
abbrev pub own_units : ℕ → List Frame → List ℕ
own_units n [] = []
own_units n (frame ∷ frames) = map (λ unit. n + unit) (numbered frame).exports ++ own_units (n + unit_count frame) frames

-- PERSISTING NAMES

abbrev pub has_name : List ℕ → Frame → Bool
has_name name frame = is_some (holder_in frame.resources name)

-- the unit that a frame whose units begin at n has under a name, if it has the name
abbrev pub unit_under : ℕ → List ℕ → Frame → Option ℕ
unit_under n name frame = option_map (λ k. n + unit_at frame.resources k) (holder_in frame.resources name)

-- the last unit under a name after frames whose units begin at n, where before them it was this one
abbrev pub last_unit : ℕ → List ℕ → Option ℕ → List Frame → Option ℕ
last_unit n name unit [] = unit
last_unit n name unit (frame ∷ frames) = last_unit (n + unit_count frame) name (option_or (unit_under n name frame) unit) frames

-- those of the names that a frame has
abbrev pub last_units : List (List ℕ) → List Frame → List ℕ
last_units [] frames = []
last_units (name ∷ names) frames = option_to_list (last_unit 0 name None frames) ++ last_units names frames

-- the exports of the frames, and after them the last unit of each persisting name, where it is not yet among them
abbrev pub exported_units : List (List ℕ) → List Frame → List ℕ
exported_units persist frames = own_units 0 frames ++ others (own_units 0 frames) (last_units persist frames)

-- PLACES

-- how many units frames export
abbrev pub exports_in : List Frame → ℕ
exports_in [] = 0
exports_in (frame ∷ frames) = length (numbered frame).exports + exports_in frames

-- the place of export k of frame i among what its window exports
abbrev pub export_place : List Frame → ℕ → ℕ → ℕ → ℕ
export_place frames depth i k = exports_in (take (i % depth) (drop ((i / depth) * depth) frames)) + k

-- the place of a unit in a list whose places begin at i
abbrev pub place_from : ℕ → ℕ → List ℕ → Option ℕ
place_from unit i [] = None
place_from unit i (x ∷ xs) = if x == unit then Some i else place_from unit (suc i) xs

-- the place of the last unit under a name; none where no frame has the name
abbrev pub place_under : List (List ℕ) → List Frame → List ℕ → Option ℕ
place_under persist frames name = option_and_then (λ unit. place_from unit 0 (exported_units persist frames)) (last_unit 0 name None frames)

-- the same of persisting name k in window w
abbrev pub persisted_export : List Frame → List (List ℕ) → ℕ → ℕ → ℕ → Option ℕ
persisted_export frames persist depth w k = option_and_then (place_under persist (frames_in depth frames w)) (slice_get persist k)
