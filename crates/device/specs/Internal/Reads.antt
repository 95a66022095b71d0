-- What the host reads.
use Rattle.std.specs.Prelude.{ℕ, List, replicate, Option, Some, None}
use Rattle.device_cache.specs.Effects.{Caches, read_main}
use Rattle.base.specs.declared.memory_range.MemoryRange.{MemoryRange}

-- a junk byte again and again, or else main's bytes
abbrev pub read_into : Option ℕ → MemoryRange → Caches → List ℕ
read_into None range c = read_main range c
read_into (Some byte) range c = replicate range.len byte
