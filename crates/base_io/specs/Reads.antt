-- What a read gives.
use Rattle.std.specs.Prelude.{ℕ, List, ◌<◌, ◌≤◌, ◌≡◌, take}
use Rattle.std.specs.declared.option.Option.{Option}
use Rattle.std.specs.Io.KnownBytes.{Consumes, Keeps, IsAtEnd}
use Rattle.base_io.specs.Counts.{Rose}
use Rattle.base_io.specs.declared.source.ReadResult.{ReadResult}
use Rattle.base_io.specs.declared.source.ReadResult.TheVariants.{Got, End, Failed}

-- between one byte and all that there is room for
abbrev pub IsWithin : ReadResult → ℕ → Type 0
IsWithin (Got n) room = (0 < n) × (n ≤ room)
IsWithin End room = Unit {0}
IsWithin Failed room = Unit {0}

-- what is got is the front of what was left; the end comes only where nothing is left
abbrev pub ReadsBytes : Option (List ℕ) → Option (List ℕ) → ReadResult → List ℕ → Type 0
ReadsBytes old new (Got n) buffer = Consumes old new (take n buffer)
ReadsBytes old new End buffer = IsAtEnd old × Keeps old new
ReadsBytes old new Failed buffer = Keeps old new

-- only a failed read is counted
abbrev pub CountsFault : ℕ → ℕ → ReadResult → Type 0
CountsFault before after (Got n) = after ≡ before
CountsFault before after End = after ≡ before
CountsFault before after Failed = Rose before after
