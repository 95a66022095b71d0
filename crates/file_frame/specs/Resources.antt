-- Resources: `name`; then `buffer` and optional `import`, or `image`, `texel` and, in format 2, optional `layers`; and in
-- format 2 optional `sharing`.
use Rattle.std.specs.Prelude.{◌≡◌, ℕ, ◌==◌, List, Some, option_map, [], ◌∷◌, Option, None, IfSome, Ok, if◌then◌else◌, codes}
use Rattle.hex.specs.Hex.{IsBytes}
use Rattle.base.specs.Names.{IsName}
use Rattle.base.specs.declared.shape.Shape.{Shape}
use Rattle.base.specs.declared.shape.Shape.TheVariants.{Buffer, Image}
use Rattle.vk.specs.declared.sharing.Sharing.{Sharing}
use Rattle.vk.specs.declared.sharing.Sharing.TheVariants.{Exclusive, Concurrent}
use Rattle.file_json.specs.Leaves.{name_at, number_data, text_data, same_bytes}
use Rattle.file_json.specs.Parts.{Reader, object_at, member_at, optional_at, others_at}
use Rattle.file_json.specs.Reading.{◌>>=◌}
use Rattle.frame.specs.declared.frame.Resource.{Resource}
use Rattle.file_shapes.specs.Bodies.{body_at, FitsLayers}
use Rattle.file_shapes.specs.Hexadecimal.{hex_at, hex_data}
use Rattle.file_shapes.specs.Sharings.{sharing_at, sharing_text}
use Rattle.file_shapes.specs.Texels.{texel_text}
use Rattle.serde_json.specs.Data.{Data, array, object, Members, no_members, item, no_items, put}

-- an image has no import
abbrev pub import_at : Shape → Reader (Option (List ℕ))
import_at (Buffer size) at d = optional_at hex_at (codes "import") at d
import_at (Image width height texel) at d = Ok None

-- the members of a resource of this shape, in a file of this format
abbrev pub members_of : ℕ → Shape → List (List ℕ)
members_of format (Buffer size) =
    if format == 1 then codes "name" ∷ codes "buffer" ∷ codes "import" ∷ []
    else codes "name" ∷ codes "buffer" ∷ codes "import" ∷ codes "sharing" ∷ []
members_of format (Image width height texel) =
    if format == 1 then codes "name" ∷ codes "image" ∷ codes "texel" ∷ []
    else codes "name" ∷ codes "image" ∷ codes "texel" ∷ codes "layers" ∷ codes "sharing" ∷ []

unfoldable pub resource_at : ℕ → Reader Resource
resource_at format at d = do
  start ← object_at at d
  name ← member_at name_at (codes "name") at d
  body ← body_at format at d
  import ← import_at body.shape at d
  sharing ← sharing_at format at d
  end ← others_at (members_of format body.shape) at d
  Ok (record { name = name; shape = body.shape; layers = body.layers; import = import; sharing = sharing })

-- the members with one more, in the byte order of their names, where there is one more
abbrev pub put_maybe : List ℕ → Option Data → Members → Members
put_maybe name None ms = ms
put_maybe name (Some d) ms = put name d ms

-- one layer is not written
abbrev pub layers_data : ℕ → Option Data
layers_data layers = if layers == 1 then None else Some (number_data layers)

-- that a resource is exclusive is not written
abbrev pub sharing_data : Sharing → Option Data
sharing_data Exclusive = None
sharing_data Concurrent = Some (text_data sharing_text Concurrent)

abbrev pub shape_members : Shape → Members → Members
shape_members (Buffer size) ms = put (codes "buffer") (number_data size) ms
shape_members (Image width height texel) ms = put (codes "image") (array (item (number_data width) (item (number_data height) no_items))) (put (codes "texel") (text_data texel_text texel) ms)

abbrev pub resource_members : Resource → Members
resource_members resource =
    put_maybe (codes "sharing") (sharing_data resource.sharing) (
    put_maybe (codes "layers") (layers_data resource.layers) (
    put_maybe (codes "import") (option_map hex_data resource.import) (
    shape_members resource.shape (
    put (codes "name") (text_data same_bytes resource.name) no_members))))

abbrev pub resource_data : Resource → Data
resource_data resource = object (resource_members resource)

abbrev pub FitsImport : Shape → Option (List ℕ) → Type 0
FitsImport (Buffer size) import = IfSome import IsBytes
FitsImport (Image width height texel) import = import ≡ None

-- what the format says of a resource, whichever file it comes from
pub record FitsResource (resource : Resource) : Type 0 where
  pub name : IsName resource.name
  pub layers : FitsLayers resource.shape resource.layers
  pub import : FitsImport resource.shape resource.import
