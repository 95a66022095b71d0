use Rattle.std.proofs.Common.{◌≡◌, take}
use Rattle.frame.specs.Numbered.{numbered}
use Rattle.compile_groups.specs.Groups.{imports_in}
use Rattle.compile_groups.proofs.setting.imports.Given as goal

abbrev pub invariant-loop-unit : goal.invariant-loop-unit
invariant-loop-unit l = l.imports ≡ take l.unit (imports_in (numbered l.frame))
