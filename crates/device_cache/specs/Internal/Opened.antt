-- The table without further cuts, memory by memory.
use Rattle.std.specs.Prelude.{ℕ, List, ◌≡◌, ◌+◌, ◌<◌, true, length, replicate}
use Rattle.device_cache.specs.declared.cell.Cell.TheVariants as cells
use Rattle.device_cache.specs.declared.row.Row.{Row}
use Rattle.device_cache.specs.declared.memory.Memory.{Memory}
use Rattle.device_cache.specs.declared.segment.Segment.{Segment}
use Rattle.device_cache.specs.Places.{row_at, cut_in}
use Rattle.device_cache.specs.Tables.{memory_in, slot_at}
use Rattle.device_cache.specs.Internal.Kept.{IsTiled, AreApart}

-- the bytes of a slot, and no lines
abbrev pub open_row : ℕ → ℕ → Row
open_row slot start = record { main = record { slot = slot; start = start }; lines = replicate 32 cells.Empty }

abbrev pub open_segment : ℕ → ℕ → ℕ → Segment
open_segment slot start size = record { end = start + size; row = open_row slot start }

-- so many memories lie one behind the other, each with the bytes of the slot after its number, and no lines
pub record IsOpened (slots : List (List ℕ)) (count total : ℕ) (memories : List Memory) (segments : List Segment) : Type 0 where
  pub tiled : IsTiled total slots segments
  pub apart : AreApart total memories
  pub many : length memories ≡ count
  pub sizes : (m : ℕ) → m < count → (memory_in memories m).size ≡ length (slot_at slots (m + 1))
  pub rows : (m i : ℕ) → m < count → i < (memory_in memories m).size → row_at segments ((memory_in memories m).start + i) ≡ open_row (m + 1) (memory_in memories m).start
  pub starts : (m : ℕ) → m < count → cut_in segments (memory_in memories m).start ≡ true
  pub ends : (m : ℕ) → m < count → cut_in segments ((memory_in memories m).start + (memory_in memories m).size) ≡ true
