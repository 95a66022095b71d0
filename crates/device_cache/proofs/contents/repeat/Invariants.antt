use Rattle.std.proofs.Common.{◌≡◌, ℕ, ◌<◌, ◌+◌, get_or}
use Rattle.device_cache.specs.Repeats.{byte_of}
use Rattle.device_cache.proofs.contents.repeat.Given as goal

abbrev pub invariant-loop-k : goal.invariant-loop-k
invariant-loop-k l = (j : ℕ) → j < l.k → get_or l.out j 0 ≡ byte_of l.word (l.first + j)
