-- What the table of a device keeps of its program.
use Rattle.std.specs.Prelude.{◌≡◌, ℕ, ◌*◌, ◌^◌, ◌<◌, ◌≤◌, length, slice_get, slice_index}
use Rattle.std.specs.Option.{option_map_or}
use Rattle.device_cache.specs.Effects.{Caches}
use Rattle.base.specs.declared.memory_range.MemoryRange.{MemoryRange}
use Rattle.device_cache.specs.Tables.{Table, size_of, junk_of, missing, InMemory, Keeps}
use Rattle.device_model.specs.Agents.{piece_range}
use Rattle.device_model.specs.States.{State}
use Rattle.program.specs.Limits.{memory_bytes}
use Rattle.program.specs.declared.program.Program.{Program}
use Rattle.check_access.specs.Views.{View, view_of}

abbrev pub memory_size : Program → ℕ → ℕ
memory_size program m = option_map_or memory_bytes (slice_get program.memories m) 0

-- the range is one of a memory, and the table is cut at both of its ends
pub record IsCutOut (t : Table) (r : MemoryRange) : Type 0 where
  pub within : InMemory t r.memory r.start r.len
  pub cut : missing t r.memory r.start r.len ≡ 0

-- all pieces are cut out, the junk is long enough for each, and their lengths are numbers of four bytes
pub record HasCut (t : Table) (V : View) : Type 0 where
  pub pieces : (p : ℕ) → p < length V.pieces → IsCutOut t (piece_range V p)
  pub junk : (p : ℕ) → p < length V.pieces → (piece_range V p).len ≤ length (junk_of t)
  pub short : (p : ℕ) → p < length V.pieces → (piece_range V p).len < 2 ^ 32

-- the table has the agents and the memories of the program, and its junk is the fill byte
pub record FitsProgram (t : Table) (program : Program) (fill : ℕ) : Type 0 where
  pub agents : t.agents ≡ 8 * length program.queues
  pub memories : length t.memories ≡ length program.memories
  pub sizes : (m : ℕ) → size_of t m ≡ memory_size program m
  pub cuts : HasCut t (view_of program)
  pub junk : (k : ℕ) → k < length (junk_of t) → slice_index (junk_of t) k ≡ fill

-- a change where the table is cut already takes no room
pub record Stays (old new : Table) : Type 0 where
  pub keeps : Keeps old new
  pub cuts : old.cuts_left ≤ new.cuts_left
  pub stores : new.stores_left ≡ old.stores_left

-- main's bytes in the memories and the lines of all agents are those of the state; behind a memory's end a table has no bytes
pub record HasBytes (program : Program) (c : Caches) (s : State) : Type 0 where
  pub main : (m i : ℕ) → i < memory_size program m → c.main m i ≡ s.main m i
  pub line : (g m i : ℕ) → c.line g m i ≡ s.line g m i
