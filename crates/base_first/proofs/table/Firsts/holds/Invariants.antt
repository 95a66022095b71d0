use Rattle.std.proofs.Common.{◌≡◌, true, ℕ, ◌<◌}
use Rattle.base_first.specs.Bits.{bit}
use Rattle.base_first.specs.Firsts.{Found}
use Rattle.base_first.specs.Points.{point_at, UpTo}
use Rattle.base_first.proofs.table.Firsts.holds.Given as goal

abbrev pub invariant-loop-c : goal.invariant-loop-c
invariant-loop-c l = (c z : ℕ) → c < l.c → bit (point_at l.fn.points l.fn.y).ins c ≡ true → z < l.fn.start → Found l.fn.points (UpTo l.fn.points l.fn.channels l.fn.p) (point_at l.fn.points l.fn.y).queue c z → ⊥
