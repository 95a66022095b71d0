use Rattle.std.proofs.Common.{ℕ}
use Rattle.base.specs.Texels.{picture}
use Rattle.kernel.specs.Closures.{ChangesOnly}
use Rattle.kernel.proofs.Numbers.{AreBytes}
use Rattle.kernel.proofs.Areas.{IsReached}
use Rattle.kernel.proofs.repainting.repaint.Given as goal

abbrev pub invariant-loop-row : goal.invariant-loop-row
invariant-loop-row g l =
    AreBytes l.fn.out
    × AreBytes l.out
    × ((p : ℕ → ℕ → ℕ) → ChangesOnly (goal.F-post g l.f) l.grid l.area l.fn.out p → IsReached l.grid l.area l.row 0 (picture l.grid l.fn.out) p l.out)

abbrev pub invariant-loop-column : goal.invariant-loop-column
invariant-loop-column g l =
    AreBytes l.fn.out
    × AreBytes l.out
    × ((p : ℕ → ℕ → ℕ) → ChangesOnly (goal.F-post g l.f) l.grid l.area l.fn.out p → IsReached l.grid l.area l.row l.column (picture l.grid l.fn.out) p l.out)
