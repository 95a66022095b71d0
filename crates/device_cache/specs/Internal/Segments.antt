-- The order of segments, and what a change of some of them leaves.
use Rattle.std.specs.Prelude.{ℕ, Bool, List, ◌<◌, nat_lt, nat_le, ◌&&◌, if◌then◌else◌, length}
use Rattle.device_cache.specs.declared.segment.Segment.{Segment}
use Rattle.device_cache.specs.declared.change.Change.{Change}
use Rattle.device_cache.specs.Places.{segment_at, place}
use Rattle.device_cache.specs.Internal.Rows.{RowIn, changed}

-- a segment has the address
abbrev pub covers : List Segment → ℕ → Bool
covers segments x = nat_lt (place segments x) (length segments)

-- no segment is empty, and each ends behind the one before it
pub record Ascending (segments : List Segment) : Type 0 where
  pub some : (k : ℕ) → k < length segments → 0 < (segment_at segments k).end
  pub rising : (j k : ℕ) → j < k → k < length segments → (segment_at segments j).end < (segment_at segments k).end

-- each row names slots below the count
abbrev pub IsLaid : ℕ → List Segment → Type 0
IsLaid count segments = (k : ℕ) → k < length segments → RowIn count (segment_at segments k).row

abbrev pub within : ℕ → ℕ → ℕ → Bool
within from to x = nat_le from x && nat_lt x to

abbrev pub changed_segment : ℕ → Change → Segment → Segment
changed_segment g change s = record { end = s.end; row = changed g change s.row }

-- the segment after a change of those that are numbered from first up to last
abbrev pub changed_in : ℕ → ℕ → ℕ → Change → ℕ → Segment → Segment
changed_in first last g change k s = if within first last k then changed_segment g change s else s
