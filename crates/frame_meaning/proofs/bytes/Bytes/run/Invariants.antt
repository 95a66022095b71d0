use Rattle.std.proofs.Common.{◌≡◌, drop}
use Rattle.frame_meaning.specs.Meaning.{after_ops}
use Rattle.frame_meaning.specs.Internal.Sizes.{AreSized}
use Rattle.frame_meaning.proofs.bytes.Bytes.run.Given as goal

abbrev pub invariant-loop-op : goal.invariant-loop-op
invariant-loop-op l = record {
  bytes : after_ops l.shapes l.self (drop l.op-index l.ops) ≡ after_ops l.shapes l.fn.self l.ops;
  sized : AreSized l.shapes l.self;
}
