use Rattle.std.proofs.Common.{◌≡◌, ◌+◌, ◌<◌, ◌≤◌, ℕ, get_or, length}
use Rattle.std.specs.Prelude.{bit_or}
use Rattle.base_reach.proofs.close.add_words.Given as goal

abbrev pub invariant-loop-k : goal.invariant-loop-k
invariant-loop-k l = record {
  size : length l.row ≡ length l.initial.row;
  before : (j : ℕ) → l.first ≤ j → j < l.k → get_or l.row j 0 ≡ bit_or (get_or l.initial.row j 0) (get_or l.table (l.base + j) 0);
  below : (j : ℕ) → j < l.first → get_or l.row j 0 ≡ get_or l.initial.row j 0;
  after : (j : ℕ) → l.k ≤ j → get_or l.row j 0 ≡ get_or l.initial.row j 0;
}
