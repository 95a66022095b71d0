-- What was written is read again, in format 2.
use Rattle.std.proofs.Common.{◌≡◌, ℕ, Bool, true, false, List, [], ◌∷◌, ◌++◌, inl, inr, Option, Some, None, Ok, refl, codes}
use Rattle.std.specs.Prelude.{◌==◌, IfSome}
use Rattle.std.specs.List.{AllByRecursion}
use Rattle.std.proofs.lemmas.Bool.{cases_eq, ne_eqb}
use Rattle.hex.specs.Hex.{IsBytes}
use Rattle.base.specs.Names.{IsName, name_of}
use Rattle.base.specs.declared.op.Op.{Op}
use Rattle.base.specs.declared.path.Leg.{Leg}
use Rattle.base.specs.declared.path.Leg.TheVariants as leg
use Rattle.base.specs.declared.shape.Shape.{Shape}
use Rattle.base.specs.declared.shape.Shape.TheVariants.{Buffer, Image}
use Rattle.base.specs.declared.shape.Texel.{Texel}
use Rattle.vk.specs.declared.sharing.Sharing.{Sharing}
use Rattle.vk.specs.declared.sharing.Sharing.TheVariants.{Exclusive, Concurrent}
use Rattle.file_json.proofs.Again.{number_again, list_again, text_again}
use Rattle.file_json.specs.Leaves.{name_at, name_again, text_data, same_bytes, greatest, FitsRange}
use Rattle.file_json.specs.Parts.{below, list_at, array_of}
use Rattle.frame.specs.declared.frame.Frame.{Frame}
use Rattle.frame.specs.declared.frame.Pass.{Pass}
use Rattle.frame.specs.declared.frame.QueueDecl.{QueueDecl}
use Rattle.frame.specs.declared.frame.Resource.{Resource}
use Rattle.frame.specs.declared.frame.Spot.{Spot}
use Rattle.frame.specs.declared.frame.Write.{Write}
use Rattle.file_ops.proofs.OpAgain.{op_again}
use Rattle.file_ops.specs.OpFits.{FitsOp}
use Rattle.file_ops.specs.OpReading.{op_at}
use Rattle.file_ops.specs.OpWriting.{op_data}
use Rattle.file_shapes.proofs.Again.{bytes_again, family_again, texel_again}
use Rattle.file_shapes.specs.Bodies.{FitsLayers}
use Rattle.file_frame.specs.Frames.{format_at, frame_at, frame_data, FitsFrame}
use Rattle.file_frame.specs.Passes.{pass_at, pass_data, FitsPass}
use Rattle.file_frame.specs.Queues.{queue_at, queue_data, FitsQueue}
use Rattle.file_frame.specs.Resources.{resource_at, resource_data, FitsImport, FitsResource}
use Rattle.file_frame.specs.Spots.{spot_at, spot_data, FitsSpot}
use Rattle.file_frame.specs.Writes.{new_at, change_at, write_at, write_data, FitsWrite}
use Rattle.file_frame.proofs.SpotAgain.{spot_again}

-- the members of an object at a place
module _ (at : List Leg) where
  name_member : (member name : List ℕ) → IsName name → name_at (below at member) (text_data same_bytes name) ≡ Ok name
  name_member member name fits = text_again name_of same_bytes (below at member) name (name_again name fits)

  spots_member : (member : List ℕ) (spots : List Spot) → AllByRecursion FitsSpot spots → list_at (spot_at 2) (below at member) (array_of spot_data spots) ≡ Ok spots
  spots_member member spots fits = list_again (spot_at 2) spot_data FitsSpot spot_again (below at member) spots fits

pub queue_again : (at : List Leg) (queue : QueueDecl) → FitsQueue queue → queue_at at (queue_data queue) ≡ Ok queue
unfolding queue_at
queue_again at queue fits =
    rw (
      name_member at (codes "name") queue.name fits,
      family_again (below at (codes "family")) queue.family,
    ) refl

module _ (at : List Leg) (name : List ℕ) (fits : IsName name) where
  buffer_again : (size : ℕ) (import : Option (List ℕ)) (sharing : Sharing) → FitsRange 1 greatest size → IfSome import IsBytes
      → resource_at 2 at (resource_data (record { name = name; shape = Buffer size; layers = 1; import = import; sharing = sharing })) ≡ Ok (record { name = name; shape = Buffer size; layers = 1; import = import; sharing = sharing })
  unfolding resource_at
  buffer_again size None Exclusive s i = rw (name_member at (codes "name") name fits, number_again 1 greatest (below at (codes "buffer")) size s) refl
  buffer_again size None Concurrent s i = rw (name_member at (codes "name") name fits, number_again 1 greatest (below at (codes "buffer")) size s) refl
  buffer_again size (Some bytes) Exclusive s i = rw (name_member at (codes "name") name fits, number_again 1 greatest (below at (codes "buffer")) size s, bytes_again (below at (codes "import")) bytes i) refl
  buffer_again size (Some bytes) Concurrent s i = rw (name_member at (codes "name") name fits, number_again 1 greatest (below at (codes "buffer")) size s, bytes_again (below at (codes "import")) bytes i) refl

  -- an image with one layer, which is not written, and one with more
  module _ (width height : ℕ) (texel : Texel) (w : FitsRange 1 greatest width) (h : FitsRange 1 greatest height) where
    one_layer : (sharing : Sharing)
        → resource_at 2 at (resource_data (record { name = name; shape = Image width height texel; layers = 1; import = None; sharing = sharing })) ≡ Ok (record { name = name; shape = Image width height texel; layers = 1; import = None; sharing = sharing })
    unfolding resource_at
    one_layer Exclusive = rw (name_member at (codes "name") name fits, number_again 1 greatest (below at (codes "image") ++ leg.Position 0 ∷ []) width w, number_again 1 greatest (below at (codes "image") ++ leg.Position 1 ∷ []) height h, texel_again (below at (codes "texel")) texel) refl
    one_layer Concurrent = rw (name_member at (codes "name") name fits, number_again 1 greatest (below at (codes "image") ++ leg.Position 0 ∷ []) width w, number_again 1 greatest (below at (codes "image") ++ leg.Position 1 ∷ []) height h, texel_again (below at (codes "texel")) texel) refl

    more_layers : (layers : ℕ) (sharing : Sharing) → (layers == 1) ≡ false → FitsRange 1 8 layers
        → resource_at 2 at (resource_data (record { name = name; shape = Image width height texel; layers = layers; import = None; sharing = sharing })) ≡ Ok (record { name = name; shape = Image width height texel; layers = layers; import = None; sharing = sharing })
    unfolding resource_at
    more_layers layers Exclusive e l = rw (e, name_member at (codes "name") name fits, number_again 1 greatest (below at (codes "image") ++ leg.Position 0 ∷ []) width w, number_again 1 greatest (below at (codes "image") ++ leg.Position 1 ∷ []) height h, texel_again (below at (codes "texel")) texel, number_again 1 8 (below at (codes "layers")) layers l) refl
    more_layers layers Concurrent e l = rw (e, name_member at (codes "name") name fits, number_again 1 greatest (below at (codes "image") ++ leg.Position 0 ∷ []) width w, number_again 1 greatest (below at (codes "image") ++ leg.Position 1 ∷ []) height h, texel_again (below at (codes "texel")) texel, number_again 1 8 (below at (codes "layers")) layers l) refl

    image_again : (layers : ℕ) (sharing : Sharing) → FitsRange 1 8 layers
        → resource_at 2 at (resource_data (record { name = name; shape = Image width height texel; layers = layers; import = None; sharing = sharing })) ≡ Ok (record { name = name; shape = Image width height texel; layers = layers; import = None; sharing = sharing })
    image_again layers sharing l =
        elim (cases_eq layers 1) [
          | inl one ↦ rw one (one_layer sharing)
          | inr other ↦ more_layers layers sharing (ne_eqb layers 1 other) l
        ]

  shape_again : (shape : Shape) (layers : ℕ) (import : Option (List ℕ)) (sharing : Sharing) → FitsLayers shape layers → FitsImport shape import
      → resource_at 2 at (resource_data (record { name = name; shape = shape; layers = layers; import = import; sharing = sharing })) ≡ Ok (record { name = name; shape = shape; layers = layers; import = import; sharing = sharing })
  shape_again (Buffer size) layers import sharing l i = rw (l.1) (buffer_again size import sharing l.0 i)
  shape_again (Image width height texel) layers import sharing l i = rw i (image_again width height texel l.0 l.1 layers sharing l.2)

pub resource_again : (at : List Leg) (resource : Resource) → FitsResource resource → resource_at 2 at (resource_data resource) ≡ Ok resource
resource_again at resource fits = shape_again at resource.name fits.name resource.shape resource.layers resource.import resource.sharing fits.layers fits.import

module _ (at : List Leg) where
  write_with : (what : Spot) (fresh : Bool) → FitsSpot what → write_at 2 at (write_data (record { what = what; fresh = fresh })) ≡ Ok (record { what = what; fresh = fresh })
  unfolding write_at new_at change_at
  write_with what true fits = rw (spot_again (below at (codes "new")) what fits) refl
  write_with what false fits = rw (spot_again (below at (codes "change")) what fits) refl

pub write_again : (at : List Leg) (write : Write Spot) → FitsWrite write → write_at 2 at (write_data write) ≡ Ok write
write_again at write fits = write_with at write.what write.fresh fits

op_spots_again : (at : List Leg) (op : Op Spot) → FitsOp FitsSpot op → op_at (spot_at 2) at (op_data spot_data op) ≡ Ok op
op_spots_again = op_again (spot_at 2) spot_data FitsSpot spot_again

pub pass_again : (at : List Leg) (pass : Pass) → FitsPass pass → pass_at 2 at (pass_data pass) ≡ Ok pass
unfolding pass_at
pass_again at pass fits =
    rw (
      name_member at (codes "name") pass.name fits.name,
      name_member at (codes "queue") pass.queue fits.queue,
      spots_member at (codes "reads") pass.reads fits.reads,
      list_again (write_at 2) write_data FitsWrite write_again (below at (codes "writes")) pass.writes fits.writes,
      list_again (op_at (spot_at 2)) (op_data spot_data) (FitsOp FitsSpot) op_spots_again (below at (codes "ops")) pass.ops fits.ops,
    ) refl

pub format_again : (frame : Frame) → format_at [] (frame_data frame) ≡ Ok 2
unfolding format_at
format_again frame = refl

pub frame_again : (at : List Leg) (frame : Frame) → FitsFrame frame → frame_at 2 at (frame_data frame) ≡ Ok frame
unfolding frame_at
frame_again at frame fits =
    rw (
      list_again queue_at queue_data FitsQueue queue_again (below at (codes "queues")) frame.queues fits.queues,
      list_again (resource_at 2) resource_data FitsResource resource_again (below at (codes "resources")) frame.resources fits.resources,
      list_again (pass_at 2) pass_data FitsPass pass_again (below at (codes "passes")) frame.passes fits.passes,
      spots_member at (codes "exports") frame.exports fits.exports,
    ) refl
