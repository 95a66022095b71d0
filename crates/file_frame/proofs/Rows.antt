-- Worked rows: the first fault of written-out files.
use Rattle.std.proofs.Common.{◌≡◌, [], ◌∷◌, None, Some, Ok, Err, true, false, codes, refl}
use Rattle.std.specs.Str.{is_utf8, chars}
use Rattle.serde_json.proofs.OnLiterals.{serde_json_on_literals}
use Rattle.base.specs.declared.op.Op.TheVariants.{FillBuffer}
use Rattle.base.specs.declared.path.Leg.TheVariants.{Member, Position}
use Rattle.base.specs.declared.shape.Family.TheVariants.{Graphics}
use Rattle.base.specs.declared.shape.Shape.TheVariants.{Buffer}
use Rattle.vk.specs.declared.sharing.Sharing.TheVariants.{Exclusive}
use Rattle.frame.specs.Faults.{not_json, misshapen}
use Rattle.file_frame.specs.Queues.{queue_at}
use Rattle.file_frame.specs.Files.{frame_of, unknown_format}
use Rattle.file_frame.specs.Frames.{format_at, frame_at}
use Rattle.file_frame.specs.Passes.{pass_at}
use Rattle.file_frame.specs.Resources.{resource_at}
use Rattle.file_frame.specs.Spots.{spot_of}
use Rattle.file_frame.specs.Writes.{write_at, new_at}
use Rattle.file_ops.specs.OpReading.{op_at, parts_at, variant_at, fill_buffer_at}

nothing : frame_of [] ≡ Err not_json
unfolding serde_json_on_literals is_utf8 chars
nothing = refl

half_an_object : frame_of (codes "{\"format\":1") ≡ Err not_json
unfolding serde_json_on_literals is_utf8 chars
half_an_object = refl

no_object : frame_of (codes "[[]]") ≡ Err (misshapen [])
unfolding serde_json_on_literals is_utf8 chars format_at
no_object = refl

no_queues : frame_of (codes "{\"format\":1}") ≡ Err (misshapen (Member (codes "queues") ∷ []))
unfolding serde_json_on_literals is_utf8 chars format_at frame_at
no_queues = refl

-- nothing else is examined in a file of another format
later_format : frame_of (codes "{\"queues\":0,\"format\":3}") ≡ Err unknown_format
unfolding serde_json_on_literals is_utf8 chars format_at
later_format = refl

-- of two members with one key the later counts
later_member : frame_of (codes "{\"format\":1,\"format\":3}") ≡ Err unknown_format
unfolding serde_json_on_literals is_utf8 chars format_at
later_member = refl

other_family : frame_of (codes "{\"format\":2,\"queues\":[{\"name\":\"g\",\"family\":\"graphics\"},{\"name\":\"v\",\"family\":\"video\"}]}") ≡ Err (misshapen (Member (codes "queues") ∷ Position 1 ∷ Member (codes "family") ∷ []))
unfolding serde_json_on_literals is_utf8 chars format_at frame_at queue_at
other_family = refl

-- the known members come first, then the first unknown one in byte order
unknown_members : frame_of (codes "{\"b\":0,\"format\":1,\"a\":0,\"queues\":[],\"resources\":[],\"passes\":[],\"exports\":[]}") ≡ Err (misshapen (Member (codes "a") ∷ []))
unfolding serde_json_on_literals is_utf8 chars format_at frame_at
unknown_members = refl

-- a file of format 1 knows no layers
layers_of_format_1 : frame_of (codes "{\"format\":1,\"queues\":[],\"resources\":[{\"name\":\"im\",\"image\":[1,1],\"texel\":\"r8\",\"layers\":1}]}") ≡ Err (misshapen (Member (codes "resources") ∷ Position 0 ∷ Member (codes "layers") ∷ []))
unfolding serde_json_on_literals is_utf8 chars format_at frame_at resource_at
layers_of_format_1 = refl

layer_7 : spot_of 2 (codes "im/7") ≡ Some (record { name = codes "im"; layer = Some 7 })
layer_7 = refl

layer_8 : spot_of 2 (codes "im/8") ≡ None
layer_8 = refl

no_name : spot_of 2 (codes "/0") ≡ None
no_name = refl

layer_of_format_1 : spot_of 1 (codes "im/7") ≡ None
layer_of_format_1 = refl

one_fill : frame_of (codes "{\"format\":1,\"queues\":[{\"name\":\"g\",\"family\":\"graphics\"}],\"resources\":[{\"name\":\"b\",\"buffer\":16}],\"passes\":[{\"name\":\"p\",\"queue\":\"g\",\"writes\":[{\"new\":\"b\"}],\"ops\":[{\"op\":\"fill_buffer\",\"dst\":\"b\",\"offset\":0,\"size\":16,\"word\":7}]}],\"exports\":[\"b\"]}") ≡ Ok (record {
  queues = record { name = codes "g"; family = Graphics } ∷ [];
  resources = record { name = codes "b"; shape = Buffer 16; layers = 1; import = None; sharing = Exclusive } ∷ [];
  passes = record { name = codes "p"; queue = codes "g"; reads = []; writes = record { what = record { name = codes "b"; layer = None }; fresh = true } ∷ []; ops = FillBuffer (record { name = codes "b"; layer = None }) 0 16 7 ∷ []; side_effect = false } ∷ [];
  exports = record { name = codes "b"; layer = None } ∷ [];
})
unfolding serde_json_on_literals is_utf8 chars format_at frame_at queue_at resource_at pass_at write_at new_at op_at parts_at variant_at fill_buffer_at
one_fill = refl
