-- What a resource is made of: `buffer`; or `image`, `texel` and, in format 2, optional `layers`.
use Rattle.std.specs.Prelude.{◌≡◌, ℕ, ◌==◌, ◌||◌, Bool, not, is_some, Ok, unwrap_or, if◌then◌else◌, codes}
use Rattle.base.specs.declared.shape.Shape.{Shape}
use Rattle.base.specs.declared.shape.Shape.TheVariants.{Buffer, Image}
use Rattle.file_json.specs.Leaves.{number_at, text_at, greatest, FitsRange}
use Rattle.file_json.specs.Parts.{Reader, member_at, optional_at}
use Rattle.file_json.specs.Reading.{◌>>=◌}
use Rattle.serde_json.specs.Data.{Data}
use Rattle.serde_json.specs.Find.{get}
use Rattle.file_shapes.specs.Sides.{sides_at}
use Rattle.file_shapes.specs.Texels.{texel_of}
use Rattle.file_shapes.specs.declared.body.Body.{Body}

abbrev pub stated_layers_at : Reader ℕ
stated_layers_at at d = optional_at (number_at 1 8) (codes "layers") at d >>= λ layers. Ok (unwrap_or layers 1)

-- in a file of this format
abbrev pub layers_at : ℕ → Reader ℕ
layers_at format at d = if format == 1 then Ok 1 else stated_layers_at at d

abbrev pub buffer_at : Reader Body
buffer_at at d = member_at (number_at 1 greatest) (codes "buffer") at d >>= λ size. Ok (record { shape = Buffer size; layers = 1 })

abbrev pub image_at : ℕ → Reader Body
image_at format at d = do
  sides ← member_at sides_at (codes "image") at d
  texel ← member_at (text_at texel_of) (codes "texel") at d
  layers ← layers_at format at d
  Ok (record { shape = Image sides.width sides.height texel; layers = layers })

-- with both members it is a buffer, and `image` is unknown; with neither, `buffer` is absent
abbrev pub is_buffer : Data → Bool
is_buffer d = is_some (get (codes "buffer") d) || not (is_some (get (codes "image") d))

abbrev pub body_at : ℕ → Reader Body
body_at format at d = if is_buffer d then buffer_at at d else image_at format at d

-- what the formats say of so many layers of a shape, whichever file it comes from
abbrev pub FitsLayers : Shape → ℕ → Type 0
FitsLayers (Buffer size) layers = FitsRange 1 greatest size × (layers ≡ 1)
FitsLayers (Image width height texel) layers = FitsRange 1 greatest width × FitsRange 1 greatest height × FitsRange 1 8 layers

abbrev pub FitsBody : Body → Type 0
FitsBody body = FitsLayers body.shape body.layers
