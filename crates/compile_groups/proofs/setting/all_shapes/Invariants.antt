use Rattle.std.proofs.Common.{◌≡◌, ◌++◌, map, drop}
use Rattle.frame.specs.Numbered.{numbered}
use Rattle.compile_groups.specs.Commands.{readback_shape, all_shapes}
use Rattle.compile_groups.proofs.setting.all_shapes.Given as goal

abbrev pub invariant-loop-unit : goal.invariant-loop-unit
invariant-loop-unit l = l.all ++ map (readback_shape (numbered l.frame)) (drop l.unit-index l.exports) ≡ all_shapes (numbered l.frame)
