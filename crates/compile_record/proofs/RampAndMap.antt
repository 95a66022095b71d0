-- The submissions of two passes on two queues: an image is made on a compute queue and read on a graphics queue.
use Rattle.std.proofs.Common.{◌≡◌, true, false, List, [], ◌∷◌, length, Some, None, refl}
use Rattle.base.specs.declared.op.Fun.TheVariants.{Add}
use Rattle.base.specs.declared.op.Op.TheVariants.{Ramp, Map, ImageToBuffer}
use Rattle.base.specs.declared.shape.Family.TheVariants.{Graphics, Compute}
use Rattle.base.specs.declared.shape.Shape.TheVariants.{Buffer, Image}
use Rattle.base.specs.declared.shape.Texel.TheVariants.{R32}
use Rattle.vk.specs.Accesses.{transfer_read, transfer_write, host_read, shader_sampled_read, shader_storage_write}
use Rattle.vk.specs.Stages.{compute_shader, copy, host, all_commands}
use Rattle.vk.specs.declared.layout.Layout.TheVariants.{Undefined, General, ShaderReadOnly, TransferSrc}
use Rattle.vk.specs.declared.layout.Layouts.{Layouts}
use Rattle.vk.specs.declared.masks.Masks.{Masks}
use Rattle.vk.specs.declared.sharing.Sharing.{Sharing}
use Rattle.vk.specs.declared.sharing.Sharing.TheVariants.{Exclusive, Concurrent}
use Rattle.frame.specs.Numbered.{NumberedFrame}
use Rattle.compile_heap.specs.Placing.{Places}
use Rattle.compile_record.specs.Recorded.{recorded}
use Rattle.program.specs.Entries.{entries_of}
use Rattle.program.specs.declared.program.Item.{Item}
use Rattle.program.specs.declared.program.Item.TheVariants.{Command, BufferBarrier, ImageBarrier, Release, Acquire}
use Rattle.program.specs.declared.program.Memory.TheVariants.{Plain}
use Rattle.program.specs.declared.program.Program.{Program}
use Rattle.program.specs.declared.program.Queue.{Queue}
use Rattle.program.specs.declared.program.Signal.{Signal}
use Rattle.program.specs.declared.program.Transfer.{Transfer}
use Rattle.compile_barriers.specs.Masks.{masks}

abbrev frame : Sharing → NumberedFrame
frame sharing = record {
  units = record { shape = Image 4 4 R32; sharing = sharing; imported = None } ∷ record { shape = Image 4 4 R32; sharing = sharing; imported = None } ∷ [];
  queues = Graphics ∷ Compute ∷ [];
  passes =
      record { queue = 1; reads = []; writes = record { what = 0; fresh = true } ∷ []; ops = Ramp 0 1 1 4 ∷ []; side_effect = false }
      ∷ record { queue = 0; reads = 0 ∷ []; writes = record { what = 1; fresh = true } ∷ []; ops = Map 0 1 Add 1 ∷ []; side_effect = false }
      ∷ [];
  exports = 1 ∷ [];
}

abbrev places : Places
places = record { offsets = 0 ∷ 256 ∷ []; heap = 320 }

-- WHAT BOTH HAVE

abbrev to_read : Layouts
to_read = record { from = General; to = ShaderReadOnly }

abbrev to_write : Layouts
to_write = record { from = Undefined; to = General }

abbrev written : Masks
written = masks compute_shader 0 compute_shader shader_storage_write

abbrev read : Masks
read = masks compute_shader 0 compute_shader shader_sampled_read

abbrev signal : Signal
signal = record { value = 1; stages = record { 0 = all_commands } }

-- the first queue, by what stands before the image is read
abbrev mapping : Item → Queue
mapping prologue = record {
  family = Graphics;
  batches = record {
    waits = record { queue = 1; value = 1; stages = record { 0 = all_commands } } ∷ [];
    items =
        prologue
        ∷ ImageBarrier 1 to_write written
        ∷ Command (Map 0 1 Add 1)
        ∷ ImageBarrier 1 (record { from = General; to = TransferSrc }) (masks compute_shader shader_storage_write copy transfer_read)
        ∷ Command (ImageToBuffer 1 2 0)
        ∷ BufferBarrier 2 (masks copy transfer_write host host_read)
        ∷ [];
    signal = Some signal;
  } ∷ [];
}

-- the second queue, by what stands after the image is made
abbrev making : List Item → Queue
making releases = record {
  family = Compute;
  batches = record { waits = []; items = ImageBarrier 0 to_write written ∷ Command (Ramp 0 1 1 4) ∷ releases; signal = Some signal } ∷ [];
}

abbrev program : Sharing → Item → List Item → Program
program sharing prologue releases = record {
  memories = Plain 320 ∷ Plain 64 ∷ [];
  pieces =
      record { shape = Image 4 4 R32; memory = 0; offset = 0; sharing = sharing }
      ∷ record { shape = Image 4 4 R32; memory = 0; offset = 256; sharing = sharing }
      ∷ record { shape = Buffer 64; memory = 1; offset = 0; sharing = Exclusive }
      ∷ [];
  queues = mapping prologue ∷ making releases ∷ [];
  readbacks = 2 ∷ [];
}

-- EXCLUSIVE IMAGES ARE HANDED OVER

abbrev transfer : Masks → Transfer
transfer masks = record { piece = 0; from_family = Compute; to_family = Graphics; layouts = Some to_read; masks = masks }

abbrev handed : Program
handed = program Exclusive (Acquire (transfer read)) (Release (transfer (masks compute_shader shader_storage_write compute_shader 0)) ∷ [])

ramp_and_map : recorded (frame Exclusive) (true ∷ true ∷ []) (λ a b. false) places ≡ handed
ramp_and_map = refl

nodes : length (entries_of handed) ≡ 13
nodes = refl

-- CONCURRENT IMAGES ARE NOT

-- the barrier follows the wait in the stages of the reader
abbrev shared : Program
shared = program Concurrent (ImageBarrier 0 to_read read) []

concurrent : recorded (frame Concurrent) (true ∷ true ∷ []) (λ a b. false) places ≡ shared
concurrent = refl
