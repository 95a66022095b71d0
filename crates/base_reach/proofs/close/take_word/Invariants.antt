use Rattle.std.proofs.Common.{◌≡◌, ◌+◌, ◌*◌, ◌<◌, ◌⊎◌, ℕ, true, length}
use Rattle.std.specs.Int.{bit_at}
use Rattle.base_reach.specs.Bits.{bit}
use Rattle.base_reach.specs.Internal.Closing.{Grown}
use Rattle.base_reach.proofs.close.take_word.Given as goal

abbrev pub invariant-bits : goal.invariant-bits
invariant-bits l = record {
  size : length l.row ≡ length l.fn.row;
  grown : Grown l.direct l.table (length l.fn.row) l.from l.count l.row;
  keeps : (b : ℕ) → b < 64 * length l.fn.row → bit l.fn.row b ≡ true → bit l.row b ≡ true;
  left : (j : ℕ) → j < 64 → bit_at l.left j ≡ 1 → bit l.direct (l.at * 64 + j) ≡ true;
  taken : (j : ℕ) → j < 64 → bit l.direct (l.at * 64 + j) ≡ true → (bit_at l.left j ≡ 1) ⊎ (bit l.row (l.at * 64 + j) ≡ true);
}

abbrev pub decreases-bits : goal.decreases-bits
decreases-bits l = l.left
