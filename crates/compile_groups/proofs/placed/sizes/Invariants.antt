use Rattle.std.proofs.Common.{◌≡◌, ◌++◌, map, drop}
use Rattle.base.specs.Shapes.{shape_at, bytes_of}
use Rattle.compile_groups.proofs.placed.sizes.Given as goal

abbrev pub invariant-loop-unit : goal.invariant-loop-unit
invariant-loop-unit l = l.sizes ++ map (λ unit. bytes_of (shape_at l.shapes unit)) (drop l.unit-index l.units) ≡ map (λ unit. bytes_of (shape_at l.shapes unit)) l.units
