-- What stores and moves of caches do to a range of bytes, byte by byte.
use Rattle.std.specs.Prelude.{ℕ, ◌+◌, ◌-◌, ◌==◌, ◌&&◌, if◌then◌else◌, List, [], map, slice_index, slice_index_or}
use Rattle.std.specs.List.{range_with_len}
use Rattle.base.specs.declared.cache_move.CacheMove.{CacheMove}
use Rattle.base.specs.declared.cache_move.MoveKind.{MoveKind}
use Rattle.base.specs.declared.cache_move.MoveKind.TheVariants.{WriteBack, Fill, DropLine}
use Rattle.base.specs.declared.memory_range.MemoryRange.{MemoryRange}
use Rattle.device_cache.specs.Lines.{Lines, Bytes, Absent, Dirty, seen, written, cleaned, filled, dropped, range, is_in}

-- LINES AND MAIN

-- an agent stores bytes: its lines are dirty with them
abbrev pub stored_in : ℕ → MemoryRange → List ℕ → Lines → Lines
stored_in agent range bytes lines g m i = if (g == agent) && is_in range m i then Dirty (slice_index bytes (i - range.start)) else lines g m i

-- dirty lines of the agent go to main ..
abbrev pub wrote_main : ℕ → MemoryRange → Lines → Bytes → Bytes
wrote_main agent range lines main m i = if is_in range m i then written (lines agent m i) (main m i) else main m i

-- .. and become clean
abbrev pub wrote_back : ℕ → MemoryRange → Lines → Lines
wrote_back agent range lines g m i = if (g == agent) && is_in range m i then cleaned (lines g m i) else lines g m i

-- bytes without a line get a clean one from main
abbrev pub filled_from : ℕ → MemoryRange → Bytes → Lines → Lines
filled_from agent range main lines g m i = if (g == agent) && is_in range m i then filled (lines g m i) (main m i) else lines g m i

-- clean lines go away
abbrev pub dropped_in : ℕ → MemoryRange → Lines → Lines
dropped_in agent range lines g m i = if (g == agent) && is_in range m i then dropped (lines g m i) else lines g m i

-- main gets bytes past all lines
abbrev pub overwrote : MemoryRange → List ℕ → Bytes → Bytes
overwrote range bytes main m i = if is_in range m i then slice_index bytes (i - range.start) else main m i

-- MAIN WITH ITS LINES

-- the bytes of memories, and the lines of all agents before them
pub record Caches : Type 0 where
  pub main : Bytes
  pub line : Lines

-- each memory has the bytes of its list, and there are no lines
abbrev pub opened : List (List ℕ) → Caches
opened opening = record { main = λ m i. slice_index (slice_index_or opening m []) i; line = λ g m i. Absent }

abbrev pub put : ℕ → MemoryRange → List ℕ → Caches → Caches
put agent range bytes c = record { main = c.main; line = stored_in agent range bytes c.line }

abbrev pub write_back : ℕ → MemoryRange → Caches → Caches
write_back agent range c = record { main = wrote_main agent range c.line c.main; line = wrote_back agent range c.line }

abbrev pub fill : ℕ → MemoryRange → Caches → Caches
fill agent range c = record { main = c.main; line = filled_from agent range c.main c.line }

abbrev pub drop_clean : ℕ → MemoryRange → Caches → Caches
drop_clean agent range c = record { main = c.main; line = dropped_in agent range c.line }

-- wherever the agent has them, its dirty lines go to main and become clean ..
abbrev pub write_back_all : ℕ → Caches → Caches
write_back_all agent c = record { main = λ m i. written (c.line agent m i) (c.main m i); line = λ g m i. if g == agent then cleaned (c.line g m i) else c.line g m i }

-- .. or its clean lines go away
abbrev pub drop_clean_all : ℕ → Caches → Caches
drop_clean_all agent c = record { main = c.main; line = λ g m i. if g == agent then dropped (c.line g m i) else c.line g m i }

-- lines of an agent move over a range
abbrev pub moved_by : MoveKind → ℕ → MemoryRange → Caches → Caches
moved_by WriteBack agent range c = write_back agent range c
moved_by Fill agent range c = fill agent range c
moved_by DropLine agent range c = drop_clean agent range c

abbrev pub move_lines : CacheMove → Caches → Caches
move_lines m c = moved_by m.kind m.agent m.range c

abbrev pub overwrite : MemoryRange → List ℕ → Caches → Caches
overwrite range bytes c = record { main = overwrote range bytes c.main; line = c.line }

-- READS

-- the bytes of a range as the agent sees them
abbrev pub load : ℕ → MemoryRange → Caches → List ℕ
load agent range c = map (λ k. seen (c.line agent range.memory (range.start + k)) (c.main range.memory (range.start + k))) (range_with_len 0 range.len)

-- the bytes of main
abbrev pub read_main : MemoryRange → Caches → List ℕ
read_main range c = map (λ k. c.main range.memory (range.start + k)) (range_with_len 0 range.len)
