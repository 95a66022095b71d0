use Rattle.std.proofs.Common.{◌≡◌, drop}
use Rattle.frame.specs.Valid.{shapes_in}
use Rattle.frame.specs.Numbered.{numbered}
use Rattle.frame_meaning.specs.Meaning.{after_passes, all_bytes}
use Rattle.frame_meaning.specs.Internal.Sizes.{AreSized}
use Rattle.frame_meaning.proofs.pictures.all_bytes.Given as goal

abbrev pub invariant-loop-pass : goal.invariant-loop-pass
invariant-loop-pass l = record {
  bytes : after_passes (shapes_in (numbered l.frame)) l.bytes (drop l.pass (numbered l.frame).passes) ≡ all_bytes (numbered l.frame);
  sized : AreSized (shapes_in (numbered l.frame)) l.bytes;
}
