-- The words of texels.
use Rattle.std.specs.Prelude.{◌≡◌, refl, ℕ, List, Option, Some, None, if◌then◌else◌, codes, ⊤}
use Rattle.std.specs.Str.{bytes_eq}
use Rattle.base.specs.declared.shape.Texel.{Texel}
use Rattle.base.specs.declared.shape.Texel.TheVariants.{R8, R32}

abbrev pub texel_of : List ℕ → Option Texel
texel_of s =
    if bytes_eq s (codes "r8") then Some R8 else
    if bytes_eq s (codes "r32") then Some R32 else
    None

abbrev pub texel_text : Texel → List ℕ
texel_text R8 = codes "r8"
texel_text R32 = codes "r32"

pub texel_again : (texel : Texel) → ⊤ → texel_of (texel_text texel) ≡ Some texel
texel_again R8 fits = refl
texel_again R32 fits = refl
