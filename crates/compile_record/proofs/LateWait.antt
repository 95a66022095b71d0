-- Two queues of one family: the second one waits for the first, and what is read in two layouts is prologue_part on the second.
use Rattle.std.proofs.Common.{◌≡◌, ℕ, true, false, List, [], ◌∷◌, length, Some, None, refl}
use Rattle.std.specs.Prelude.{slice_get}
use Rattle.std.specs.Option.{option_map}
use Rattle.base.specs.declared.op.Fun.TheVariants.{Add}
use Rattle.base.specs.declared.op.Op.TheVariants.{Ramp, Map, ImageToBuffer, CopyBuffer}
use Rattle.base.specs.declared.shape.Family.TheVariants.{Graphics}
use Rattle.base.specs.declared.shape.Shape.{Shape}
use Rattle.base.specs.declared.shape.Shape.TheVariants.{Buffer, Image}
use Rattle.base.specs.declared.shape.Texel.TheVariants.{R32}
use Rattle.vk.specs.Accesses.{transfer_read, transfer_write, host_read}
use Rattle.vk.specs.Stages.{copy, host, all_commands}
use Rattle.vk.specs.declared.layout.Layout.TheVariants.{ShaderReadOnly, TransferSrc}
use Rattle.vk.specs.declared.sharing.Sharing.TheVariants.{Exclusive}
use Rattle.frame.specs.Numbered.{NumberedFrame}
use Rattle.frame.specs.Units.{Unit}
use Rattle.frame.specs.declared.frame.Write.{Write}
use Rattle.compile_record.specs.Recorded.{recorded}
use Rattle.program.specs.Entries.{OfWait, entries_of}
use Rattle.program.specs.declared.program.Item.TheVariants.{Command, BufferBarrier, ImageBarrier}
use Rattle.program.specs.declared.program.Queue.{Queue}
use Rattle.compile_heap.specs.Placing.{Places}
use Rattle.compile_barriers.specs.Masks.{masks}

abbrev unit : Shape → Unit
unit shape = record { shape = shape; sharing = Exclusive; imported = None }

abbrev new : ℕ → List (Write ℕ)
new u = record { what = u; fresh = true } ∷ []

abbrev frame : NumberedFrame
frame = record {
  units = unit (Image 4 4 R32) ∷ unit (Image 4 4 R32) ∷ unit (Buffer 64) ∷ [];
  queues = Graphics ∷ Graphics ∷ [];
  passes =
      record { queue = 0; reads = []; writes = new 0; ops = Ramp 0 1 1 4 ∷ []; side_effect = false }
      ∷ record { queue = 0; reads = 0 ∷ []; writes = new 1; ops = Map 0 1 Add 1 ∷ []; side_effect = false }
      ∷ record { queue = 1; reads = 0 ∷ []; writes = new 2; ops = ImageToBuffer 0 2 0 ∷ []; side_effect = false }
      ∷ [];
  exports = 1 ∷ 2 ∷ [];
}

abbrev places : Places
places = record { offsets = 0 ∷ 256 ∷ 512 ∷ []; heap = 576 }

abbrev second : Queue
second = record {
  family = Graphics;
  batches = record {
    waits = record { queue = 0; value = 1; stages = record { 0 = all_commands } } ∷ [];
    items =
        ImageBarrier 0 (record { from = ShaderReadOnly; to = TransferSrc }) (masks copy 0 copy transfer_read)
        ∷ Command (ImageToBuffer 0 2 0)
        ∷ BufferBarrier 2 (masks copy transfer_write copy transfer_read)
        ∷ Command (CopyBuffer 2 4 0 0 64)
        ∷ BufferBarrier 4 (masks copy transfer_write host host_read)
        ∷ [];
    signal = Some (record { value = 1; stages = record { 0 = all_commands } });
  } ∷ [];
}

late_wait : slice_get (recorded frame (true ∷ true ∷ true ∷ []) (λ a b. false) places).queues 1 ≡ Some second
late_wait = refl

-- the first queue ends a batch after the command that is waited for
two_batches : option_map (λ queue. length queue.batches) (slice_get (recorded frame (true ∷ true ∷ true ∷ []) (λ a b. false) places).queues 0) ≡ Some 2
two_batches = refl

nodes : length (entries_of (recorded frame (true ∷ true ∷ true ∷ []) (λ a b. false) places)) ≡ 19
nodes = refl

-- the second queue begins with its wait
wait : slice_get (entries_of (recorded frame (true ∷ true ∷ true ∷ []) (λ a b. false) places)) 10 ≡ Some (OfWait 1 (record { queue = 0; value = 1; stages = record { 0 = all_commands } }))
wait = refl
