use Rattle.std.proofs.Common.{◌≡◌, ℕ, ◌<◌, length, get_or}
use Rattle.compile_heap.specs.Placing.{number_at}
use Rattle.compile_heap.proofs.falling.keys_of.Given as goal

abbrev pub invariant-loop-i : goal.invariant-loop-i
invariant-loop-i l = record {
  count : length l.keys.items ≡ l.i;
  numbered : (k : ℕ) (d : _) → k < l.i → (get_or l.keys.items k d).1 ≡ k;
  sized : (k : ℕ) (d : _) → k < l.i → (get_or l.keys.items k d).0.0 ≡ number_at l.sizes k;
}
