use Rattle.std.proofs.Common.{◌≡◌, drop, length, map, is_some}
use Rattle.frame.specs.Numbered.{numbered}
use Rattle.frame_meaning.specs.Internal.Stored.{marked}
use Rattle.frame_meaning.proofs.stored.stored.Given as goal

abbrev pub invariant-loop-pass : goal.invariant-loop-pass
invariant-loop-pass l = record {
  size : length l.marks ≡ length (numbered l.frame).units;
  marks : marked (drop l.pass (numbered l.frame).passes) l.marks ≡ marked (numbered l.frame).passes (map (λ u. is_some u.imported) (numbered l.frame).units);
}
