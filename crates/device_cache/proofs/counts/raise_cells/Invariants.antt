use Rattle.std.proofs.Common.{ℕ, ◌+◌, take}
use Rattle.device_cache.specs.Internal.Uses.{lines_uses, Counts}
use Rattle.device_cache.proofs.counts.raise_cells.Given as goal

abbrev pub invariant-loop-k : goal.invariant-loop-k
invariant-loop-k l = (f : ℕ → ℕ) → Counts l.initial.counts f → Counts l.counts (λ slot. f slot + lines_uses slot (take l.k l.lines))
