-- A worked row: an image is made on the second queue and read on the first one, which waits for it.
use Rattle.std.proofs.Common.{◌≡◌, Bool, true, false, ℕ, List, [], ◌∷◌, length, None, refl}
use Rattle.base.specs.declared.op.Fun.TheVariants.{Add}
use Rattle.base.specs.declared.op.Op.TheVariants.{Ramp, Map, ImageToBuffer}
use Rattle.base.specs.declared.shape.Family.TheVariants.{Graphics, Compute}
use Rattle.base.specs.declared.shape.Shape.TheVariants.{Image}
use Rattle.base.specs.declared.shape.Texel.TheVariants.{R32}
use Rattle.vk.specs.declared.sharing.Sharing.TheVariants.{Exclusive}
use Rattle.law_meaning.specs.Declared.{ops_in, declared_ops}
use Rattle.frame.specs.Numbered.{NumberedFrame}
use Rattle.compile_groups.specs.Groups.{grouping}
use Rattle.check_order.specs.Nodes.{program_nodes}
use Rattle.compile_heap.specs.Placing.{Places}
use Rattle.compile_record.specs.Recorded.{recorded}
use Rattle.program.specs.declared.program.Program.{Program}

abbrev frame : NumberedFrame
frame = record {
  units = record { shape = Image 4 4 R32; sharing = Exclusive; imported = None } ∷ record { shape = Image 4 4 R32; sharing = Exclusive; imported = None } ∷ [];
  queues = Graphics ∷ Compute ∷ [];
  passes =
      record { queue = 1; reads = []; writes = record { what = 0; fresh = true } ∷ []; ops = Ramp 0 1 1 4 ∷ []; side_effect = false }
      ∷ record { queue = 0; reads = 0 ∷ []; writes = record { what = 1; fresh = true } ∷ []; ops = Map 0 1 Add 1 ∷ []; side_effect = false }
      ∷ [];
  exports = 1 ∷ [];
}

abbrev kept : List Bool
kept = true ∷ true ∷ []

abbrev places : Places
places = record { offsets = 0 ∷ 256 ∷ []; heap = 320 }

abbrev program : Program
program = recorded frame kept (λ a b. false) places

nodes : length (program_nodes program) ≡ 13
nodes = refl

-- the nodes of the second queue, its barrier, command, release and signal, have the higher numbers
abbrev by_number : List ℕ
by_number = 0 ∷ 1 ∷ 2 ∷ 3 ∷ 4 ∷ 5 ∷ 6 ∷ 7 ∷ 8 ∷ 9 ∷ 10 ∷ 11 ∷ 12 ∷ []

abbrev by_steps : List ℕ
by_steps = 8 ∷ 9 ∷ 10 ∷ 11 ∷ 0 ∷ 1 ∷ 2 ∷ 3 ∷ 4 ∷ 5 ∷ 6 ∷ 7 ∷ 12 ∷ []

turned_round : ops_in program by_number ≡ Map 0 1 Add 1 ∷ ImageToBuffer 1 2 0 ∷ Ramp 0 1 1 4 ∷ []
turned_round = refl

in_order : ops_in program by_steps ≡ Ramp 0 1 1 4 ∷ Map 0 1 Add 1 ∷ ImageToBuffer 1 2 0 ∷ []
in_order = refl

as_declared : ops_in program by_steps ≡ declared_ops (grouping frame kept)
as_declared = refl
