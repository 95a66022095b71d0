use Rattle.std.proofs.Common.{ℕ, ◌<◌}
use Rattle.base_first.specs.Firsts.{Found}
use Rattle.base_first.specs.Points.{UpTo}
use Rattle.base_first.proofs.table.Firsts.leads_out.Given as goal

abbrev pub invariant-loop-q : goal.invariant-loop-q
invariant-loop-q l = (r y : ℕ) → r < l.q → Found l.fn.points (UpTo l.fn.points l.fn.self.channels l.fn.p) r l.fn.c y → ⊥
