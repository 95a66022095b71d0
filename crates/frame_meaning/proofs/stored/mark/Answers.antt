use Rattle.std.proofs.Common.{◌<◌, subst, sym, length}
use Rattle.base.specs.Operands.{destination_of}
use Rattle.frame_meaning.proofs.Steps.{item_within}
use Rattle.frame_meaning.proofs.stored.mark.Goals as goal

pub set-requires : goal.set-requires
set-requires c = subst (λ u. u < length c.loop-op.marks) (sym c.destination.ensures) (subst (λ m. destination_of c.op-item.result < m) (sym c.loop-op.invariant.size) (item_within c.args.ops.now c.loop-op.op-index (length c.args.marks.now) c.op-item.result c.requires c.loop-op-test.true c.op-item.is))
