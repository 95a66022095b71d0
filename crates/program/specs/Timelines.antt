-- Values of timelines.
use Rattle.std.specs.Prelude.{ℕ, List, [], ◌∷◌, max, Option, Some, None}
use Rattle.program.specs.declared.program.Batch.{Batch}
use Rattle.program.specs.declared.program.Signal.{Signal}

abbrev pub value_of : Option Signal → ℕ
value_of None = 0
value_of (Some signal) = signal.value

-- the highest value that the batches signal, 0 without one
abbrev pub highest : List Batch → ℕ
highest [] = 0
highest (batch ∷ batches) = max (value_of batch.signal) (highest batches)
