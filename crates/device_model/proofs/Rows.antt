-- Runs of two programs on devices opened with the byte 238: a copy and then a map of what it copied, with no barrier between
-- them, and with one that makes nothing available.
use Rattle.std.proofs.Common.{◌≡◌, ℕ, List, [], ◌∷◌, Some, None, refl}
use Rattle.base.specs.CacheMoves.{cache_move}
use Rattle.base.specs.Texels.{band, low_bytes, texel_at}
use Rattle.base.specs.declared.cache_move.MoveKind.TheVariants.{WriteBack}
use Rattle.base.specs.declared.event.Event.{Event}
use Rattle.base.specs.declared.event.Event.TheVariants.{Begin, End, Sync, Move, Host}
use Rattle.base.specs.declared.op.Fun.TheVariants as funs
use Rattle.base.specs.declared.op.Op.TheVariants.{CopyBuffer, Map}
use Rattle.base.specs.declared.shape.Family.TheVariants.{Graphics}
use Rattle.base.specs.declared.shape.Texel.TheVariants.{R32}
use Rattle.base.specs.declared.shape.Shape.TheVariants.{Buffer, Image}
use Rattle.vk.specs.Accesses.{shader_storage_read}
use Rattle.vk.specs.Stages.{compute_shader, copy, all_commands}
use Rattle.vk.specs.declared.sharing.Sharing.TheVariants.{Exclusive}
use Rattle.device_model.specs.Devices.{state_of}
use Rattle.program.specs.FirstFault.{first_fault}
use Rattle.program.specs.declared.program.Item.{Item}
use Rattle.program.specs.declared.program.Item.TheVariants.{Command, Global}
use Rattle.program.specs.declared.program.Memory.TheVariants.{Plain, Import}
use Rattle.program.specs.declared.program.Program.{Program}

-- one queue with these items and a signal; the host reads piece 2
abbrev submission : List Item → Program
submission items = record {
  memories = Plain 256 ∷ Plain 256 ∷ Import (1 ∷ 0 ∷ 0 ∷ 0 ∷ []) ∷ Plain 256 ∷ [];
  pieces =
      record { shape = Buffer 4; memory = 0; offset = 0; sharing = Exclusive }
      ∷ record { shape = Buffer 4; memory = 0; offset = 0; sharing = Exclusive }
      ∷ record { shape = Buffer 4; memory = 1; offset = 0; sharing = Exclusive }
      ∷ record { shape = Buffer 4; memory = 2; offset = 0; sharing = Exclusive }
      ∷ record { shape = Image 1 1 R32; memory = 3; offset = 0; sharing = Exclusive }
      ∷ [];
  queues = record {
    family = Graphics;
    batches = record { waits = []; items = items; signal = Some (record { value = 1; stages = record { 0 = all_commands } }) } ∷ [];
  } ∷ [];
  readbacks = 2 ∷ [];
}

abbrev copied : Item
copied = Command (CopyBuffer 3 0 0 0 4)

abbrev mapped : Item
mapped = Command (Map 0 2 funs.Add 1)

-- what the host reads at node n
abbrev host_after : Program → List Event → ℕ → List ℕ
host_after program history n = (state_of (record { program = program; fill = 238; history = history; moves = 1 })).host n

-- UNORDERED

abbrev unordered : Program
unordered = submission (copied ∷ mapped ∷ [])

unordered_shaped : first_fault unordered ≡ None
unordered_shaped = refl

map_first : host_after unordered (Begin 1 ∷ End 1 ∷ Begin 0 ∷ End 0 ∷ Sync 2 ∷ Host 3 ∷ []) 3 ≡ 239 ∷ 238 ∷ 238 ∷ 238 ∷ []
unfolding state_of band low_bytes texel_at lib.Count.count_trailing_zeros
map_first = refl

map_later : host_after unordered (Begin 0 ∷ End 0 ∷ Move (cache_move WriteBack 6 0 0 4) ∷ Begin 1 ∷ End 1 ∷ Sync 2 ∷ Host 3 ∷ []) 3 ≡ 2 ∷ 0 ∷ 0 ∷ 0 ∷ []
unfolding state_of band low_bytes texel_at lib.Count.count_trailing_zeros
map_later = refl

-- UNAVAILABLE

abbrev unavailable : Program
unavailable = submission (copied ∷ Global (record {
  src_stages = record { 0 = copy };
  src_accesses = record { 0 = 0 };
  dst_stages = record { 0 = compute_shader };
  dst_accesses = record { 0 = shader_storage_read };
}) ∷ mapped ∷ [])

unavailable_shaped : first_fault unavailable ≡ None
unavailable_shaped = refl

kept_back : host_after unavailable (Begin 0 ∷ End 0 ∷ Sync 1 ∷ Begin 2 ∷ End 2 ∷ Sync 3 ∷ Host 4 ∷ []) 4 ≡ 239 ∷ 238 ∷ 238 ∷ 238 ∷ []
unfolding state_of band low_bytes texel_at lib.Count.count_trailing_zeros
kept_back = refl

written_back : host_after unavailable (Begin 0 ∷ End 0 ∷ Move (cache_move WriteBack 6 0 0 4) ∷ Sync 1 ∷ Begin 2 ∷ End 2 ∷ Sync 3 ∷ Host 4 ∷ []) 4 ≡ 2 ∷ 0 ∷ 0 ∷ 0 ∷ []
unfolding state_of band low_bytes texel_at lib.Count.count_trailing_zeros
written_back = refl
