use Rattle.std.proofs.Common.{◌≡◌, ℕ, ◌<◌, get_or}
use Rattle.compile_groups.specs.Placed.{placed}
use Rattle.compile_barriers.proofs.under.place_of.Given as goal

abbrev pub invariant-loop-b : goal.invariant-loop-b
invariant-loop-b l = (k : ℕ) → k < l.b → get_or (placed l.groups) k 0 ≡ l.unit → ⊥
