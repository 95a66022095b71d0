-- What sources and sinks in memory do, call by call.
use Rattle.std.specs.Prelude.{ℕ, List, Bool, ◌+◌, ◌-◌, ◌^◌, ◌++◌, ◌==◌, ◌||◌, min, length, take, drop, if◌then◌else◌}
use Rattle.std.specs.List.{list_any}
use Rattle.base_io.specs.declared.sink.Put.{Put}
use Rattle.base_io.specs.declared.sink.Put.TheVariants as puts
use Rattle.base_io.specs.declared.source.ReadResult.{ReadResult}
use Rattle.base_io.specs.declared.source.ReadResult.TheVariants as takens

-- a source: the bytes that are left, the most that a read gives, which reads are to fail, counted from 1, and how many
-- were made and failed
pub record Supply : Type 0 where
  pub left : List ℕ
  pub most : ℕ
  pub failing : List ℕ
  pub calls : ℕ
  pub faults : ℕ

-- a source that never fails: the bytes that are left, and the most that a read gives
pub record SteadySupply : Type 0 where
  pub left : List ℕ
  pub most : ℕ

-- a sink: the bytes that it took, how many it has room for, the most that a write takes, which writes are to fail, and
-- how many were made and failed
pub record Store : Type 0 where
  pub taken : List ℕ
  pub room : ℕ
  pub most : ℕ
  pub failing : List ℕ
  pub calls : ℕ
  pub faults : ℕ

-- the number of the next call, which stops at the greatest u32
abbrev pub next_call : ℕ → ℕ
next_call calls = min (calls + 1) (2 ^ 32 - 1)

abbrev pub one_fault_more : ℕ → ℕ
one_fault_more faults = min (faults + 1) (2 ^ 64 - 1)

abbrev pub is_failing : List ℕ → ℕ → Bool
is_failing failing call = list_any (λ c. c == call) failing

-- what a read into so much room gives, unless it is to fail
abbrev pub given : List ℕ → ℕ → ℕ → ReadResult
given left most room = if length left == 0 then takens.End else takens.Got (min (min room (length left)) most)

abbrev pub next_read : Supply → ℕ → ReadResult
next_read s room = if is_failing s.failing (next_call s.calls) then takens.Failed else given s.left s.most room

abbrev pub after_read : Supply → ReadResult → Supply
after_read s (takens.Got n) = record s { left = drop n s.left; calls = next_call s.calls }
after_read s takens.End = record s { calls = next_call s.calls }
after_read s takens.Failed = record s { calls = next_call s.calls; faults = one_fault_more s.faults }

-- what the next write of so many bytes does
abbrev pub next_write : Store → ℕ → Put
next_write s len = if length s.taken == s.room || is_failing s.failing (next_call s.calls) then puts.Failed else puts.Took (min (min len (s.room - length s.taken)) s.most)

abbrev pub after_write : Store → List ℕ → Put → Store
after_write s bytes (puts.Took n) = record s { taken = s.taken ++ take n bytes; calls = next_call s.calls }
after_write s bytes puts.Failed = record s { calls = next_call s.calls; faults = one_fault_more s.faults }
