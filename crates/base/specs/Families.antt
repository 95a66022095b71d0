-- The names of queue families.
use Rattle.std.specs.Prelude.{ℕ, List, codes}
use Rattle.base.specs.declared.shape.Family.{Family}
use Rattle.base.specs.declared.shape.Family.TheVariants.{Graphics, Compute, Transfer}

abbrev pub family_name : Family → List ℕ
family_name Graphics = codes "graphics"
family_name Compute = codes "compute"
family_name Transfer = codes "transfer"
