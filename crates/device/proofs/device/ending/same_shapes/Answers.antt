use Rattle.std.proofs.Common.{rules}
use Rattle.std.proofs.lemmas.Slice.Eq.{slice_eq-Decides}
use Rattle.base.specs.declared.shape.Shape.{Shape}
use Rattle.device.proofs.device.ending.same_shapes.Goals as goal

pub returns : goal.returns
returns c = slice_eq-Decides (λ (a b : Shape). search rules) c.args.a.now c.args.b.now c.eq.result c.eq.ensures
