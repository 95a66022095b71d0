-- What contracts see of a table, and the bytes and lines that it stands for.
use Rattle.std.specs.Prelude.{ℕ, Bool, [], List, ◌+◌, ◌-◌, ◌<◌, ◌≤◌, ◌≡◌, ◌&&◌, nat_lt, true, if◌then◌else◌, length, slice_index, slice_index_or}
use Rattle.device_cache.specs.declared.part.Part.{Part}
use Rattle.device_cache.specs.declared.cell.Cell.{Cell}
use Rattle.device_cache.specs.declared.cell.Cell.TheVariants as cells
use Rattle.device_cache.specs.declared.memory.Memory.{Memory}
use Rattle.device_cache.specs.declared.segment.Segment.{Segment}
use Rattle.device_cache.specs.Lines.{Line, Absent, Clean, Dirty}
use Rattle.device_cache.specs.Effects.{Caches, opened}
use Rattle.device_cache.specs.Places.{row_at, line_by, cut_in}

pub record Table : Type 0 where
  pub agents : ℕ
  pub memories : List Memory
  -- the first address past all memories
  pub total : ℕ
  pub slots : List (List ℕ)
  pub segments : List Segment
  pub cuts_left : ℕ
  pub stores_left : ℕ

abbrev pub memory_in : List Memory → ℕ → Memory
memory_in memories m = slice_index_or memories m (record { start = 0; size = 0 })

abbrev pub memory_of : Table → ℕ → Memory
memory_of t m = memory_in t.memories m

-- how many bytes the memory has
unfoldable pub size_of : Table → ℕ → ℕ
size_of t m = (memory_of t m).size

unfoldable pub address : Table → ℕ → ℕ → ℕ
address t m i = (memory_of t m).start + i

abbrev pub slot_at : List (List ℕ) → ℕ → List ℕ
slot_at slots k = slice_index_or slots k []

unfoldable pub byte_in : List (List ℕ) → Part → ℕ → ℕ
byte_in slots p x = slice_index (slot_at slots p.slot) (x - p.start)

abbrev pub line_in : List (List ℕ) → Cell → ℕ → Line
line_in slots cells.Empty x = Absent
line_in slots (cells.Clean p) x = Clean (byte_in slots p x)
line_in slots (cells.Dirty p) x = Dirty (byte_in slots p x)

-- main's bytes, and the lines before them; 0 and none where no memory or no agent is
unfoldable pub caches_of : Table → Caches
caches_of t =
    record {
      main = λ m i. if nat_lt i (size_of t m) then byte_in t.slots (row_at t.segments (address t m i)).main (address t m i) else 0;
      line = λ g m i. if nat_lt g t.agents && nat_lt i (size_of t m) then line_in t.slots (line_by (row_at t.segments (address t m i)) g) (address t m i) else Absent;
    }

-- the bytes that `junk` puts on main
unfoldable pub junk_of : Table → List ℕ
junk_of t = slot_at t.slots 0

-- the table is cut at the place of the memory
unfoldable pub is_cut : Table → ℕ → ℕ → Bool
is_cut t m i = cut_in t.segments (address t m i)

-- how many of the ends of a range are no cuts
abbrev pub missing : Table → ℕ → ℕ → ℕ → ℕ
missing t memory start len = (if is_cut t memory start then 0 else 1) + (if is_cut t memory (start + len) then 0 else 1)

-- the memory is there, and the range is in it
pub record InMemory (t : Table) (memory start len : ℕ) : Type 0 where
  pub there : memory < length t.memories
  pub within : start + len ≤ size_of t memory

-- a new table: the opening bytes, no lines, and cuts at both ends of each memory
pub record IsMade (t : Table) (count : ℕ) (opening : List (List ℕ)) (bytes : List ℕ) : Type 0 where
  pub agents : t.agents ≡ count
  pub memories : length t.memories ≡ length opening
  pub sizes : (m : ℕ) → size_of t m ≡ length (slot_at opening m)
  pub junk : junk_of t ≡ bytes
  pub caches : caches_of t ≡ opened opening
  pub starts : (m : ℕ) → m < length opening → is_cut t m 0 ≡ true
  pub ends : (m : ℕ) → m < length opening → is_cut t m (size_of t m) ≡ true

-- a call may cut the table, but takes nothing else away
pub record Keeps (old new : Table) : Type 0 where
  pub agents : new.agents ≡ old.agents
  pub memories : length new.memories ≡ length old.memories
  pub sizes : (m : ℕ) → size_of new m ≡ size_of old m
  pub junk : junk_of new ≡ junk_of old
  pub cuts : (m i : ℕ) → is_cut old m i ≡ true → is_cut new m i ≡ true
