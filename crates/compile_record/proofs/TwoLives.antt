-- A buffer is filled where another one lay: a barrier on all memory stands between. On two queues each has bytes of its own.
use Rattle.std.proofs.Common.{◌≡◌, ℕ, ◌==◌, ◌&&◌, true, false, List, [], ◌∷◌, Some, None, refl}
use Rattle.std.specs.Prelude.{slice_get}
use Rattle.base.specs.declared.op.Op.TheVariants.{FillBuffer, CopyBuffer}
use Rattle.base.specs.declared.shape.Family.{Family}
use Rattle.base.specs.declared.shape.Family.TheVariants.{Graphics, Transfer}
use Rattle.base.specs.declared.shape.Shape.TheVariants.{Buffer}
use Rattle.vk.specs.Accesses.{transfer_read, transfer_write, host_read}
use Rattle.vk.specs.Stages.{clear, copy, host, all_commands}
use Rattle.vk.specs.declared.masks.Masks.{Masks}
use Rattle.vk.specs.declared.sharing.Sharing.TheVariants.{Exclusive}
use Rattle.frame.specs.Numbered.{NumberedFrame}
use Rattle.frame.specs.Units.{Unit}
use Rattle.frame.specs.declared.frame.Write.{Write}
use Rattle.compile_record.specs.Recorded.{recorded}
use Rattle.program.specs.declared.program.Item.TheVariants.{Command, Global, BufferBarrier}
use Rattle.program.specs.declared.program.Memory.TheVariants.{Plain}
use Rattle.program.specs.declared.program.Piece.{Piece}
use Rattle.program.specs.declared.program.Program.{Program}
use Rattle.program.specs.declared.program.Queue.{Queue}
use Rattle.compile_heap.specs.Placing.{Places}
use Rattle.compile_barriers.specs.Masks.{masks}

abbrev buffer : ℕ → Unit
buffer size = record { shape = Buffer size; sharing = Exclusive; imported = None }

abbrev new : ℕ → Write ℕ
new unit = record { what = unit; fresh = true }

-- the second pass is on this queue
abbrev frame : List Family → ℕ → NumberedFrame
frame queues second = record {
  units = buffer 512 ∷ buffer 512 ∷ buffer 4 ∷ buffer 4 ∷ [];
  queues = queues;
  passes =
      record { queue = 0; reads = []; writes = new 0 ∷ new 2 ∷ []; ops = FillBuffer 0 0 512 1 ∷ CopyBuffer 0 2 0 0 4 ∷ []; side_effect = false }
      ∷ record { queue = second; reads = []; writes = new 1 ∷ new 3 ∷ []; ops = FillBuffer 1 0 512 2 ∷ CopyBuffer 1 3 0 0 4 ∷ []; side_effect = false }
      ∷ [];
  exports = 2 ∷ 3 ∷ [];
}

abbrev places : Places
places = record { offsets = 0 ∷ 0 ∷ 512 ∷ 768 ∷ []; heap = 772 }

abbrev piece : ℕ → ℕ → ℕ → Piece
piece size memory offset = record { shape = Buffer size; memory = memory; offset = offset; sharing = Exclusive }

abbrev filled : Masks
filled = masks clear transfer_write copy transfer_read

abbrev copied : Masks
copied = masks copy transfer_write copy transfer_read

abbrev to_host : Masks
to_host = masks copy transfer_write host host_read

abbrev program : Program
program = record {
  memories = Plain 772 ∷ Plain 4 ∷ Plain 4 ∷ [];
  pieces = piece 512 0 0 ∷ piece 512 0 0 ∷ piece 4 0 512 ∷ piece 4 0 768 ∷ piece 4 1 0 ∷ piece 4 2 0 ∷ [];
  queues = record {
    family = Graphics;
    batches = record {
      waits = [];
      items =
          Command (FillBuffer 0 0 512 1)
          ∷ BufferBarrier 0 filled
          ∷ Command (CopyBuffer 0 2 0 0 4)
          ∷ Global (masks copy 0 clear transfer_write)
          ∷ Command (FillBuffer 1 0 512 2)
          ∷ BufferBarrier 1 filled
          ∷ Command (CopyBuffer 1 3 0 0 4)
          ∷ BufferBarrier 2 copied
          ∷ Command (CopyBuffer 2 4 0 0 4)
          ∷ BufferBarrier 4 to_host
          ∷ BufferBarrier 3 copied
          ∷ Command (CopyBuffer 3 5 0 0 4)
          ∷ BufferBarrier 5 to_host
          ∷ [];
      signal = Some (record { value = 1; stages = record { 0 = all_commands } });
    } ∷ [];
  } ∷ [];
  readbacks = 4 ∷ 5 ∷ [];
}

two_lives : recorded (frame (Graphics ∷ []) 0) (true ∷ true ∷ []) (λ a b. a == 0 && b == 1) places ≡ program
two_lives = refl

-- ON TWO QUEUES

abbrev apart : Places
apart = record { offsets = 0 ∷ 512 ∷ 1024 ∷ 1280 ∷ []; heap = 1284 }

abbrev second : Queue
second = record {
  family = Transfer;
  batches = record {
    waits = [];
    items =
        Command (FillBuffer 1 0 512 2)
        ∷ BufferBarrier 1 filled
        ∷ Command (CopyBuffer 1 3 0 0 4)
        ∷ BufferBarrier 3 copied
        ∷ Command (CopyBuffer 3 5 0 0 4)
        ∷ BufferBarrier 5 to_host
        ∷ [];
    signal = Some (record { value = 1; stages = record { 0 = all_commands } });
  } ∷ [];
}

no_global : slice_get (recorded (frame (Graphics ∷ Transfer ∷ []) 1) (true ∷ true ∷ []) (λ a b. false) apart).queues 1 ≡ Some second
no_global = refl
