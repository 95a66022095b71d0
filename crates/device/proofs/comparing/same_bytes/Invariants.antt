use Rattle.std.proofs.Common.{◌≡◌, ℕ, ◌<◌, true, get_or}
use Rattle.device.proofs.comparing.same_bytes.Given as goal

abbrev pub invariant-loop-k : goal.invariant-loop-k
invariant-loop-k l = l.same ≡ true → (j : ℕ) → j < l.k → get_or l.a j 0 ≡ get_or l.b j 0
