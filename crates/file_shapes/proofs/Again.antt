-- What was written is read again.
use Rattle.std.proofs.Common.{◌≡◌, ℕ, List, Ok, refl}
use Rattle.hex.specs.Hex.{IsBytes}
use Rattle.hex.proofs.HexLemmas.{decode_of-encode_lower}
use Rattle.base.specs.declared.path.Leg.{Leg}
use Rattle.base.specs.declared.shape.Family.{Family}
use Rattle.base.specs.declared.shape.Texel.{Texel}
use Rattle.file_json.proofs.Again.{text_again}
use Rattle.file_json.specs.Leaves.{text_at, text_data}
use Rattle.file_shapes.specs.Families as families
use Rattle.file_shapes.specs.Families.{family_of}
use Rattle.base.specs.Families.{family_name}
use Rattle.file_shapes.specs.Hexadecimal.{hex_at, hex_data}
use Rattle.file_shapes.specs.Texels as texels
use Rattle.file_shapes.specs.Texels.{texel_of, texel_text}

pub bytes_again : (at : List Leg) (bytes : List ℕ) → IsBytes bytes → hex_at at (hex_data bytes) ≡ Ok bytes
bytes_again at bytes fits = rw (decode_of-encode_lower bytes fits) refl

pub family_again : (at : List Leg) (family : Family) → text_at family_of at (text_data family_name family) ≡ Ok family
family_again at family = text_again family_of family_name at family (families.family_again family tt)

pub texel_again : (at : List Leg) (texel : Texel) → text_at texel_of at (text_data texel_text texel) ≡ Ok texel
texel_again at texel = text_again texel_of texel_text at texel (texels.texel_again texel tt)
