use Rattle.std.proofs.Common.{◌≡◌, drop, length}
use Rattle.frame.specs.Numbered.{numbered}
use Rattle.frame_meaning.specs.Internal.Held.{all_settled}
use Rattle.frame_meaning.proofs.exports.settle_all.Given as goal

abbrev pub invariant-loop-unit : goal.invariant-loop-unit
invariant-loop-unit l = record {
  count : length l.held ≡ length (numbered l.frame).units;
  settled : all_settled (numbered l.frame).units l.held (drop l.unit-index l.units) ≡ all_settled (numbered l.frame).units l.fn.held l.units;
}
