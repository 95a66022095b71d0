use Rattle.std.proofs.Common.{◌≡◌, drop}
use Rattle.std.specs.List.{list_any}
use Rattle.base.specs.Operands.{touches}
use Rattle.frame.specs.Numbered.{numbered}
use Rattle.frame_meaning.proofs.wanted.is_touched_from.Given as goal
use Rattle.frame_meaning.specs.Internal.Held.{all_ops}

abbrev pub invariant-loop-pass : goal.invariant-loop-pass
invariant-loop-pass l = list_any (touches l.unit) (all_ops (drop l.pass (numbered l.frame).passes)) ≡ list_any (touches l.unit) (all_ops (drop l.first (numbered l.frame).passes))
