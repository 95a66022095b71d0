-- The submissions of the smallest frame: one pass fills one buffer, which is exported.
use Rattle.std.proofs.Common.{◌≡◌, true, false, [], ◌∷◌, Some, None, refl}
use Rattle.base.specs.declared.op.Op.TheVariants.{FillBuffer, CopyBuffer}
use Rattle.base.specs.declared.shape.Family.TheVariants.{Graphics}
use Rattle.base.specs.declared.shape.Shape.TheVariants.{Buffer}
use Rattle.vk.specs.Accesses.{transfer_read, transfer_write, host_read}
use Rattle.vk.specs.Stages.{clear, copy, host, all_commands}
use Rattle.vk.specs.declared.sharing.Sharing.TheVariants.{Exclusive}
use Rattle.frame.specs.Numbered.{NumberedFrame}
use Rattle.compile_record.specs.Recorded.{recorded}
use Rattle.program.specs.declared.program.Item.TheVariants.{Command, BufferBarrier}
use Rattle.program.specs.declared.program.Memory.TheVariants.{Plain}
use Rattle.program.specs.declared.program.Program.{Program}
use Rattle.compile_heap.specs.Placing.{Places}
use Rattle.compile_barriers.specs.Masks.{masks}

abbrev frame : NumberedFrame
frame = record {
  units = record { shape = Buffer 16; sharing = Exclusive; imported = None } ∷ [];
  queues = Graphics ∷ [];
  passes = record {
    queue = 0;
    reads = [];
    writes = record { what = 0; fresh = true } ∷ [];
    ops = FillBuffer 0 0 16 7 ∷ [];
    side_effect = false;
  } ∷ [];
  exports = 0 ∷ [];
}

abbrev places : Places
places = record { offsets = 0 ∷ []; heap = 16 }

abbrev program : Program
program = record {
  memories = Plain 16 ∷ Plain 16 ∷ [];
  pieces =
      record { shape = Buffer 16; memory = 0; offset = 0; sharing = Exclusive }
      ∷ record { shape = Buffer 16; memory = 1; offset = 0; sharing = Exclusive }
      ∷ [];
  queues = record {
    family = Graphics;
    batches = record {
      waits = [];
      items =
          Command (FillBuffer 0 0 16 7)
          ∷ BufferBarrier 0 (masks clear transfer_write copy transfer_read)
          ∷ Command (CopyBuffer 0 1 0 0 16)
          ∷ BufferBarrier 1 (masks copy transfer_write host host_read)
          ∷ [];
      signal = Some (record { value = 1; stages = record { 0 = all_commands } });
    } ∷ [];
  } ∷ [];
  readbacks = 1 ∷ [];
}

one_fill : recorded frame (true ∷ []) (λ a b. false) places ≡ program
one_fill = refl
