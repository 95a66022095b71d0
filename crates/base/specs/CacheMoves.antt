-- Cache moves by their numbers.
use Rattle.std.specs.Prelude.{ℕ}
use Rattle.base.specs.declared.cache_move.CacheMove.{CacheMove}
use Rattle.base.specs.declared.cache_move.MoveKind.{MoveKind}

-- of an agent, in a memory, from a start on, so many bytes
abbrev pub cache_move : MoveKind → ℕ → ℕ → ℕ → ℕ → CacheMove
cache_move kind agent memory start len = record { kind = kind; agent = agent; range = record { memory = memory; start = start; len = len } }
