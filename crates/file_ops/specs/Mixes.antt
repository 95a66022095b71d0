-- The words of how a rectangle changes texels.
use Rattle.std.specs.Prelude.{◌≡◌, refl, ℕ, List, [], ◌∷◌, Option, Some, codes, ⊤}
use Rattle.std.specs.List.{find}
use Rattle.std.specs.Str.{bytes_eq}
use Rattle.base.specs.declared.op.Mix.{Mix}
use Rattle.base.specs.declared.op.Mix.TheVariants as mixes

abbrev pub mix_text : Mix → List ℕ
mix_text mixes.Set = codes "set"
mix_text mixes.And = codes "and"
mix_text mixes.Or = codes "or"
mix_text mixes.Xor = codes "xor"

abbrev pub all_mixes : List Mix
all_mixes = mixes.Set ∷ mixes.And ∷ mixes.Or ∷ mixes.Xor ∷ []

-- the way with this word
abbrev pub mix_of : List ℕ → Option Mix
mix_of s = find (λ mix. bytes_eq s (mix_text mix)) all_mixes

pub mix_again : (x : Mix) → ⊤ → mix_of (mix_text x) ≡ Some x
mix_again mixes.Set fits = refl
mix_again mixes.And fits = refl
mix_again mixes.Or fits = refl
mix_again mixes.Xor fits = refl
