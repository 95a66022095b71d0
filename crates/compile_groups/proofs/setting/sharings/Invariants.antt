use Rattle.std.proofs.Common.{◌≡◌, take}
use Rattle.frame.specs.Numbered.{numbered}
use Rattle.compile_groups.specs.Groups.{sharings_in}
use Rattle.compile_groups.proofs.setting.sharings.Given as goal

abbrev pub invariant-loop-unit : goal.invariant-loop-unit
invariant-loop-unit l = l.sharings ≡ take l.unit (sharings_in (numbered l.frame))
