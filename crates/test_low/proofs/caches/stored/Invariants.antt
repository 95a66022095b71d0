use Rattle.std.proofs.Common.{◌≡◌, vec_len}
use Rattle.test_low.proofs.caches.stored.Given as goal

abbrev pub invariant-loop-k : goal.invariant-loop-k
invariant-loop-k l = vec_len l.bytes ≡ l.k
