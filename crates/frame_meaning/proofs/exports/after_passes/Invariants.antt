use Rattle.std.proofs.Common.{drop}
use Rattle.frame.specs.Numbered.{numbered}
use Rattle.frame_meaning.specs.Internal.Held.{IsAt, all_ops}
use Rattle.frame_meaning.proofs.exports.after_passes.Given as goal

abbrev pub invariant-loop-pass : goal.invariant-loop-pass
invariant-loop-pass l = IsAt (numbered l.frame) (all_ops (drop l.pass (numbered l.frame).passes)) l.held
