use Rattle.std.proofs.Common.{◌≡◌, drop, length}
use Rattle.frame_meaning.specs.Internal.Stored.{marked_by}
use Rattle.frame_meaning.proofs.stored.mark.Given as goal

abbrev pub invariant-loop-op : goal.invariant-loop-op
invariant-loop-op l = record {
  size : length l.marks ≡ length l.fn.marks;
  marks : marked_by (drop l.op-index l.ops) l.marks ≡ marked_by l.ops l.fn.marks;
}
