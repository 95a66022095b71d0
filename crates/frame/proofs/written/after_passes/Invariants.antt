use Rattle.std.proofs.Common.{◌≡◌, ℕ, take, drop, length}
use Rattle.base.specs.Walks.{first_in}
use Rattle.frame.proofs.written.after_passes.Given as goal
use Rattle.frame.specs.Uses.{is_marked, is_there, unwritten_at}

abbrev pub invariant-loop-p : goal.invariant-loop-p
invariant-loop-p l = record {
  size : length l.marks ≡ length l.fn.imported;
  marks : (u : ℕ) → is_marked l.marks u ≡ is_there l.fn.imported (take l.p l.passes) u;
  so_far : first_in (unwritten_at l.fn.imported l.passes) l.p (drop l.p l.passes) ≡ first_in (unwritten_at l.fn.imported l.passes) 0 l.passes;
}
