-- What a write does.
use Rattle.std.specs.Prelude.{ℕ, List, ◌<◌, ◌≤◌, ◌≡◌, take}
use Rattle.std.specs.declared.option.Option.{Option}
use Rattle.std.specs.Io.KnownBytes.{Appends, Keeps}
use Rattle.base_io.specs.Counts.{Rose}
use Rattle.base_io.specs.declared.sink.Put.{Put}
use Rattle.base_io.specs.declared.sink.Put.TheVariants.{Took, Failed}

-- between one byte and all of them
abbrev pub IsWithin : Put → ℕ → Type 0
IsWithin (Took n) len = (0 < n) × (n ≤ len)
IsWithin Failed len = Unit {0}

-- the first bytes are appended, and none by a failed write
abbrev pub PutsBytes : Option (List ℕ) → Option (List ℕ) → Put → List ℕ → Type 0
PutsBytes old new (Took n) bytes = Appends old new (take n bytes)
PutsBytes old new Failed bytes = Keeps old new

-- only a failed write is counted
abbrev pub CountsFault : ℕ → ℕ → Put → Type 0
CountsFault before after (Took n) = after ≡ before
CountsFault before after Failed = Rose before after
