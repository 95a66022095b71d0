use Rattle.std.proofs.Common.{◌≡◌, ◌-◌, length, take}
use Rattle.base_text.proofs.cut.cut_back.Given as goal

abbrev pub invariant-loop-cut : goal.invariant-loop-cut
invariant-loop-cut l = l.text ≡ take (length l.fn.text - l._cut) l.fn.text
