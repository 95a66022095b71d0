-- Lines stand for bytes of memories alone.
use Rattle.std.specs.Prelude.{◌≡◌, ℕ, nat_lt, slice_get, Bool, false}
use Rattle.std.specs.Option.{option_map_or}
use Rattle.device_cache.specs.Lines.{Absent}
use Rattle.device_model.specs.States.{State}
use Rattle.program.specs.Limits.{memory_bytes}
use Rattle.program.specs.declared.program.Program.{Program}

-- a byte of a memory of the program
abbrev pub is_byte : Program → ℕ → ℕ → Bool
is_byte program m i = option_map_or (λ memory. nat_lt i (memory_bytes memory)) (slice_get program.memories m) false

abbrev pub LinesWithin : Program → State → Type 0
LinesWithin program s = (g m i : ℕ) → is_byte program m i ≡ false → s.line g m i ≡ Absent
