use Rattle.std.proofs.Common.{◌≡◌, map, take, is_some}
use Rattle.frame.specs.Numbered.{numbered}
use Rattle.frame_meaning.proofs.stored.imports.Given as goal

abbrev pub invariant-loop-unit : goal.invariant-loop-unit
invariant-loop-unit l = l.marks ≡ map (λ u. is_some u.imported) (take l.unit (numbered l.frame).units)
