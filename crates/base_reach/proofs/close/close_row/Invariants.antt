use Rattle.std.proofs.Common.{◌≡◌, ◌/◌, ◌<◌, ℕ, true, length}
use Rattle.base_reach.specs.Bits.{bit}
use Rattle.base_reach.specs.Internal.Closing.{Grown}
use Rattle.base_reach.proofs.close.close_row.Given as goal

abbrev pub invariant-words : goal.invariant-words
invariant-words l = record {
  size : length l.row ≡ length l.fn.row;
  grown : Grown l.direct l.table (length l.fn.row) l.from l.count l.row;
  taken : (b : ℕ) → b / 64 < l.at → bit l.direct b ≡ true → bit l.row b ≡ true;
}
