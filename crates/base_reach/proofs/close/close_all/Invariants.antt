use Rattle.std.proofs.Common.{◌≡◌, ◌-◌, length}
use Rattle.base_reach.proofs.Upward.{Upto}
use Rattle.base_reach.proofs.close.close_all.Given as goal

abbrev pub invariant-loop-i : goal.invariant-loop-i
invariant-loop-i l = record {
  size : length l.words ≡ length l.fn.words;
  scratch : length l.scratch ≡ l.width;
  closed : Upto l.fn.words l.words l.width l.count (l.count - l.i);
}
