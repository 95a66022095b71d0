-- What a frame is written as has no float and nests little, so its text is read as the same value.
use Rattle.std.proofs.Common.{ℕ, Bool, true, false, arith, List, Option, Some, None, refl, codes}
use Rattle.std.specs.Prelude.{◌==◌, option_map, IfSome, if◌then◌else◌}
use Rattle.hex.specs.Hex.{encode_lower}
use Rattle.base.specs.declared.op.Op.{Op}
use Rattle.base.specs.declared.shape.Shape.{Shape}
use Rattle.base.specs.declared.shape.Shape.TheVariants.{Buffer, Image}
use Rattle.vk.specs.declared.sharing.Sharing.{Sharing}
use Rattle.vk.specs.declared.sharing.Sharing.TheVariants.{Exclusive, Concurrent}
use Rattle.file_json.proofs.Flat.{IsFlat, AreFlat, number_flat, text_flat, items_plain, items_shallow, with_one, object_flat}
use Rattle.file_json.specs.Leaves.{number_data, text_data, same_bytes}
use Rattle.frame.specs.declared.frame.Frame.{Frame}
use Rattle.frame.specs.declared.frame.Pass.{Pass}
use Rattle.frame.specs.declared.frame.QueueDecl.{QueueDecl}
use Rattle.frame.specs.declared.frame.Resource.{Resource}
use Rattle.frame.specs.declared.frame.Spot.{Spot}
use Rattle.frame.specs.declared.frame.Write.{Write}
use Rattle.file_ops.proofs.OpFlat.{op_flat}
use Rattle.file_ops.specs.OpWriting.{op_data}
use Rattle.file_shapes.specs.Hexadecimal.{hex_data}
use Rattle.file_shapes.specs.Sharings.{sharing_text}
use Rattle.file_shapes.specs.Texels.{texel_text}
use Rattle.file_frame.specs.Frames.{frame_data}
use Rattle.file_frame.specs.Passes.{pass_data}
use Rattle.file_frame.specs.Queues.{queue_data}
use Rattle.file_frame.specs.Resources.{resource_data, resource_members, shape_members, put_maybe, layers_data, sharing_data}
use Rattle.file_frame.specs.Spots.{spot_text, spot_data}
use Rattle.file_frame.specs.Writes.{write_data}
use Rattle.serde_json.specs.Data.{Data, array, Members, no_members, item, no_items, put}

spot_flat : (most : ℕ) (spot : Spot) → IsFlat most (spot_data spot)
spot_flat most spot = text_flat most (spot_text spot)

queue_flat : (queue : QueueDecl) → IsFlat 1 (queue_data queue)
queue_flat queue = record { plain = refl; shallow = omega arith }

write_flat : (write : Write Spot) → IsFlat 1 (write_data write)
write_flat write = record { plain = refl; shallow = omega arith }

op_spots_flat : (op : Op Spot) → IsFlat 3 (op_data spot_data op)
op_spots_flat = op_flat spot_data (spot_flat 2)

with_maybe : (k : List ℕ) (o : Option Data) (ms : Members) → IfSome o (IsFlat 1) → AreFlat 1 ms → AreFlat 1 (put_maybe k o ms)
with_maybe k None ms one all = all
with_maybe k (Some d) ms one all = with_one k d 1 ms one all

layers_flat : (b : Bool) (layers : ℕ) → IfSome (if b then None else Some (number_data layers)) (IsFlat 1)
layers_flat true layers = tt
layers_flat false layers = number_flat 1 layers

sharing_flat : (sharing : Sharing) → IfSome (sharing_data sharing) (IsFlat 1)
sharing_flat Exclusive = tt
sharing_flat Concurrent = text_flat 1 (sharing_text Concurrent)

import_flat : (import : Option (List ℕ)) → IfSome (option_map hex_data import) (IsFlat 1)
import_flat None = tt
import_flat (Some bytes) = text_flat 1 (encode_lower bytes)

shape_flat : (shape : Shape) (ms : Members) → AreFlat 1 ms → AreFlat 1 (shape_members shape ms)
shape_flat (Buffer size) ms all = with_one (codes "buffer") (number_data size) 1 ms (number_flat 1 size) all
shape_flat (Image width height texel) ms all =
    with_one (codes "image") (array (item (number_data width) (item (number_data height) no_items))) 1 _ (record { plain = refl; shallow = omega arith }) (
    with_one (codes "texel") (text_data texel_text texel) 1 ms (text_flat 1 (texel_text texel)) all)

resource_flat : (resource : Resource) → IsFlat 2 (resource_data resource)
resource_flat resource =
    let named : AreFlat 1 (put (codes "name") (text_data same_bytes resource.name) no_members) = record { plain = refl; shallow = omega arith } in
    object_flat 1 (resource_members resource) (
    with_maybe (codes "sharing") (sharing_data resource.sharing) _ (sharing_flat resource.sharing) (
    with_maybe (codes "layers") (layers_data resource.layers) _ (layers_flat (resource.layers == 1) resource.layers) (
    with_maybe (codes "import") (option_map hex_data resource.import) _ (import_flat resource.import) (
    shape_flat resource.shape _ named))))

pass_flat : (pass : Pass) → IsFlat 5 (pass_data pass)
pass_flat pass = record {
  plain = rw (items_plain (op_data spot_data) 3 op_spots_flat pass.ops, items_plain spot_data 0 (spot_flat 0) pass.reads, items_plain write_data 1 write_flat pass.writes) refl;
  shallow = omega (arith, items_shallow (op_data spot_data) 3 op_spots_flat pass.ops, items_shallow spot_data 0 (spot_flat 0) pass.reads, items_shallow write_data 1 write_flat pass.writes);
}

pub frame_flat : (frame : Frame) → IsFlat 7 (frame_data frame)
frame_flat frame = record {
  plain = rw (items_plain spot_data 0 (spot_flat 0) frame.exports, items_plain pass_data 5 pass_flat frame.passes, items_plain queue_data 1 queue_flat frame.queues, items_plain resource_data 2 resource_flat frame.resources) refl;
  shallow = omega (arith, items_shallow spot_data 0 (spot_flat 0) frame.exports, items_shallow pass_data 5 pass_flat frame.passes, items_shallow queue_data 1 queue_flat frame.queues, items_shallow resource_data 2 resource_flat frame.resources);
}
