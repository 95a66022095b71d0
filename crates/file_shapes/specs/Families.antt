-- The words of families.
use Rattle.std.specs.Prelude.{◌≡◌, refl, ℕ, List, Option, Some, None, if◌then◌else◌, codes, ⊤}
use Rattle.std.specs.Str.{bytes_eq}
use Rattle.base.specs.Families.{family_name}
use Rattle.base.specs.declared.shape.Family.{Family}
use Rattle.base.specs.declared.shape.Family.TheVariants.{Graphics, Compute, Transfer}

abbrev pub family_of : List ℕ → Option Family
family_of s =
    if bytes_eq s (codes "graphics") then Some Graphics else
    if bytes_eq s (codes "compute") then Some Compute else
    if bytes_eq s (codes "transfer") then Some Transfer else
    None

pub family_again : (family : Family) → ⊤ → family_of (family_name family) ≡ Some family
family_again Graphics fits = refl
family_again Compute fits = refl
family_again Transfer fits = refl
