-- What a table keeps between its calls.
use Rattle.std.specs.Prelude.{ℕ, ◌≡◌, ◌+◌, ◌≤◌, ◌<◌, ◌^◌, List, true, nat_lt, length, slice_index_or, Option, Some, None, vec_len, vec_capacity}
use Rattle.device_cache.specs.declared.part.Part.{Part}
use Rattle.device_cache.specs.declared.cell.Cell.{Cell}
use Rattle.device_cache.specs.declared.cell.Cell.TheVariants as cells
use Rattle.device_cache.specs.declared.row.Row.{Row}
use Rattle.device_cache.specs.declared.segment.Segment.{Segment}
use Rattle.device_cache.specs.declared.memory.Memory.{Memory}
use Rattle.device_cache.specs.declared.change.Change.{Change}
use Rattle.device_cache.specs.declared.change.Change.TheVariants as changes
use Rattle.device_cache.specs.declared.table.Segments.TheInside.{Inside}
use Rattle.device_cache.specs.Places.{place, row_at, cut_in, line_by}
use Rattle.device_cache.specs.Tables.{Table, slot_at}
use Rattle.device_cache.specs.Internal.Segments.{covers, Ascending}
use Rattle.device_cache.specs.Internal.Uses.{uses, Counts}

-- the part has a byte for the address
pub record PartFits (slots : List (List ℕ)) (p : Part) (x : ℕ) : Type 0 where
  pub slot : p.slot < length slots
  pub from : p.start ≤ x
  pub to : x < p.start + length (slot_at slots p.slot)

abbrev pub CellFits : List (List ℕ) → Cell → ℕ → Type 0
CellFits slots cells.Empty x = Unit {0}
CellFits slots (cells.Clean p) x = PartFits slots p x
CellFits slots (cells.Dirty p) x = PartFits slots p x

pub record RowFits (slots : List (List ℕ)) (r : Row) (x : ℕ) : Type 0 where
  pub lines : length r.lines ≡ 32
  pub main : PartFits slots r.main x
  pub cells : (g : ℕ) → g < 32 → CellFits slots (line_by r g) x

-- a part that the change brings has a byte for each address of the range
abbrev pub ChangeFits : List (List ℕ) → Change → ℕ → ℕ → Type 0
ChangeFits slots (changes.Put p) from to = (x : ℕ) → from ≤ x → x < to → PartFits slots p x
ChangeFits slots (changes.Junk p) from to = (x : ℕ) → from ≤ x → x < to → PartFits slots p x
ChangeFits slots _ from to = Unit {0}

-- the segments are in order up to the end of the addresses, and their parts are there
pub record IsTiled (total : ℕ) (slots : List (List ℕ)) (segments : List Segment) : Type 0 where
  pub ascending : Ascending segments
  pub covered : (x : ℕ) → covers segments x ≡ nat_lt x total
  pub whole : cut_in segments total ≡ true
  pub fits : (x : ℕ) → x < total → RowFits slots (row_at segments x) x

-- a segment has the address, and its parts have bytes for it
pub record IsThere (slots : List (List ℕ)) (segments : List Segment) (x : ℕ) : Type 0 where
  pub covered : place segments x < length segments
  pub fits : RowFits slots (row_at segments x) x

-- the memories lie one behind the other
pub record AreApart (total : ℕ) (memories : List Memory) : Type 0 where
  pub inside : (m : ℕ) (d : Memory) → m < length memories → (slice_index_or memories m d).start + (slice_index_or memories m d).size ≤ total
  pub rising : (m n : ℕ) (d : Memory) → m < n → n < length memories → (slice_index_or memories m d).start + (slice_index_or memories m d).size ≤ (slice_index_or memories n d).start

abbrev pub view_of : Inside → Table
view_of d = record { agents = d.agents; memories = d.memories.items; total = d.total; slots = d.slots.items; segments = d.segments.items; cuts_left = d.cuts_left; stores_left = d.stores_left }

pub record IsKept (d : Inside) : Type 0 where
  pub tiled : IsTiled d.total d.slots.items d.segments.items
  pub apart : AreApart d.total d.memories.items
  pub agents : d.agents ≤ 32
  pub junk : 0 < length d.slots.items
  pub counts : length d.counts.items ≡ length d.slots.items
  pub counted : Counts d.counts.items (λ slot. uses slot d.segments.items)
  pub few : length d.slots.items + d.stores_left < 2 ^ 32
  pub cuts : vec_len d.segments + d.cuts_left ≤ vec_capacity d.segments
  pub stores : vec_len d.slots + d.stores_left ≤ vec_capacity d.slots
  pub counts_room : vec_len d.counts + d.stores_left ≤ vec_capacity d.counts

-- the agent is one of so many, if one is named
abbrev pub Knows : ℕ → Option ℕ → Type 0
Knows agents None = Unit {0}
Knows agents (Some g) = g < agents
