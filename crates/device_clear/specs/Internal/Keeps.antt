-- Operations that leave the number of an image of one number as it is.
use Rattle.std.specs.Prelude.{◌≡◌, ◌⊎◌, ℕ}
use Rattle.base.specs.declared.op.Op.{Op}
use Rattle.base.specs.declared.op.Op.TheVariants.{Convert, Box3, Halve}

abbrev pub Keeps : Op ℕ → ℕ → ℕ → Type 0
Keeps op src dst = (op ≡ Convert src dst) ⊎ (op ≡ Box3 src dst) ⊎ (op ≡ Halve src dst)
