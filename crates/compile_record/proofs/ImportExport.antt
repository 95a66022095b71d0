-- The submissions of a frame without passes: an import is copied out.
use Rattle.std.proofs.Common.{◌≡◌, ℕ, false, List, [], ◌∷◌, length, Some, refl}
use Rattle.base.specs.declared.op.Op.TheVariants.{CopyBuffer}
use Rattle.base.specs.declared.shape.Family.TheVariants.{Graphics}
use Rattle.base.specs.declared.shape.Shape.TheVariants.{Buffer}
use Rattle.vk.specs.Accesses.{transfer_write, host_read}
use Rattle.vk.specs.Stages.{copy, host, all_commands}
use Rattle.vk.specs.declared.sharing.Sharing.TheVariants.{Exclusive}
use Rattle.frame.specs.Numbered.{NumberedFrame}
use Rattle.compile_heap.specs.Placing.{Places}
use Rattle.compile_record.specs.Recorded.{recorded}
use Rattle.program.specs.Entries.{entries_of}
use Rattle.program.specs.declared.program.Item.TheVariants.{Command, BufferBarrier}
use Rattle.program.specs.declared.program.Memory.TheVariants.{Plain, Import}
use Rattle.program.specs.declared.program.Program.{Program}
use Rattle.compile_barriers.specs.Masks.{masks}

abbrev bytes : List ℕ
bytes = 1 ∷ 2 ∷ 3 ∷ 4 ∷ []

abbrev frame : NumberedFrame
frame = record {
  units = record { shape = Buffer 4; sharing = Exclusive; imported = Some bytes } ∷ [];
  queues = Graphics ∷ [];
  passes = [];
  exports = 0 ∷ [];
}

-- nothing is placed
abbrev places : Places
places = record { offsets = []; heap = 0 }

abbrev program : Program
program = record {
  memories = Plain 0 ∷ Import bytes ∷ Plain 4 ∷ [];
  pieces =
      record { shape = Buffer 4; memory = 1; offset = 0; sharing = Exclusive }
      ∷ record { shape = Buffer 4; memory = 2; offset = 0; sharing = Exclusive }
      ∷ [];
  queues = record {
    family = Graphics;
    batches = record {
      waits = [];
      items = Command (CopyBuffer 0 1 0 0 4) ∷ BufferBarrier 1 (masks copy transfer_write host host_read) ∷ [];
      signal = Some (record { value = 1; stages = record { 0 = all_commands } });
    } ∷ [];
  } ∷ [];
  readbacks = 1 ∷ [];
}

import_export : recorded frame [] (λ a b. false) places ≡ program
import_export = refl

nodes : length (entries_of program) ≡ 4
nodes = refl
