use Rattle.std.proofs.Common.{◌≡◌, ℕ, ◌||◌, ◌&&◌, ◌==◌, take, length}
use Rattle.std.specs.List.{list_any}
use Rattle.frame.specs.Uses.{is_marked}
use Rattle.frame.proofs.written.mark.Given as goal

abbrev pub invariant-loop-write : goal.invariant-loop-write
invariant-loop-write l = record {
  size : length l.all ≡ length l.fn.marks;
  marks : (u : ℕ) → is_marked l.all u ≡ (is_marked l.fn.marks u || list_any (λ w. w.fresh && w.what == u) (take l.write-index l.writes));
}
