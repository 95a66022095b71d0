-- Lines of caches: for each agent and each byte of a memory at most one, which is clean or dirty.
use Rattle.std.specs.Prelude.{ℕ, ◌+◌, ◌==◌, ◌&&◌, nat_le, nat_lt, Bool}
use Rattle.base.specs.declared.memory_range.MemoryRange.{MemoryRange}

pub data Line : Type 0 where
  Absent : Line
  Clean : ℕ → Line
  Dirty : ℕ → Line

-- the line of an agent at a byte of a memory
abbrev pub Lines : Type 0
Lines = ℕ → ℕ → ℕ → Line

-- a byte of a memory
abbrev pub Bytes : Type 0
Bytes = ℕ → ℕ → ℕ

-- what is read through a line, where main has v
abbrev pub seen : Line → ℕ → ℕ
seen Absent v = v
seen (Clean u) v = u
seen (Dirty u) v = u

-- what main has once the line is written to it
abbrev pub written : Line → ℕ → ℕ
written Absent v = v
written (Clean u) v = v
written (Dirty u) v = u

abbrev pub cleaned : Line → Line
cleaned Absent = Absent
cleaned (Clean u) = Clean u
cleaned (Dirty u) = Clean u

abbrev pub filled : Line → ℕ → Line
filled Absent v = Clean v
filled (Clean u) v = Clean u
filled (Dirty u) v = Dirty u

-- clean lines go away
abbrev pub dropped : Line → Line
dropped Absent = Absent
dropped (Clean u) = Absent
dropped (Dirty u) = Dirty u

-- `len` bytes of a memory, from a start on
abbrev pub range : ℕ → ℕ → ℕ → MemoryRange
range memory start len = record { memory = memory; start = start; len = len }

abbrev pub is_in : MemoryRange → ℕ → ℕ → Bool
is_in range m i = (range.memory == m) && (nat_le range.start i && nat_lt i (range.start + range.len))
