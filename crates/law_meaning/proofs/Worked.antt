-- A worked row: of two passes the first fills a buffer that nothing needs, the second one that is exported.
use Rattle.std.proofs.Common.{◌≡◌, ℕ, Bool, true, false, List, [], ◌∷◌, Some, None, refl}
use Rattle.base.specs.Texels.{low_bytes, band}
use Rattle.base.specs.declared.op.Op.TheVariants.{FillBuffer, CopyBuffer}
use Rattle.base.specs.declared.shape.Family.TheVariants.{Graphics}
use Rattle.base.specs.declared.shape.Shape.TheVariants.{Buffer}
use Rattle.vk.specs.declared.sharing.Sharing.TheVariants.{Exclusive}
use Rattle.check_program.specs.Apart.{host_bytes}
use Rattle.law_meaning.specs.Declared.{ops_in, declared_ops}
use Rattle.law_meaning.specs.Kept.{kept_bytes}
use Rattle.frame.specs.Numbered.{NumberedFrame}
use Rattle.compile_groups.specs.Groups.{grouping}
use Rattle.frame_meaning.specs.Meaning.{meaning}
use Rattle.compile_heap.specs.Placing.{Places}
use Rattle.compile_record.specs.Recorded.{recorded}
use Rattle.program.specs.declared.program.Program.{Program}

abbrev frame : NumberedFrame
frame = record {
  units =
      record { shape = Buffer 4; sharing = Exclusive; imported = None }
      ∷ record { shape = Buffer 4; sharing = Exclusive; imported = None }
      ∷ [];
  queues = Graphics ∷ [];
  passes =
      record { queue = 0; reads = []; writes = record { what = 0; fresh = true } ∷ []; ops = FillBuffer 0 0 4 5 ∷ []; side_effect = false }
      ∷ record { queue = 0; reads = []; writes = record { what = 1; fresh = true } ∷ []; ops = FillBuffer 1 0 4 7 ∷ []; side_effect = false }
      ∷ [];
  exports = 1 ∷ [];
}

abbrev kept : List Bool
kept = false ∷ true ∷ []

abbrev places : Places
places = record { offsets = 0 ∷ []; heap = 4 }

abbrev program : Program
program = recorded frame kept (λ a b. false) places

-- the fill, a barrier, the copy, a barrier, a signal, and the read of the host
abbrev order : List ℕ
order = 0 ∷ 1 ∷ 2 ∷ 3 ∷ 4 ∷ 5 ∷ []

in_order : ops_in program order ≡ FillBuffer 0 0 4 7 ∷ CopyBuffer 0 1 0 0 4 ∷ []
in_order = refl

as_declared : ops_in program order ≡ declared_ops (grouping frame kept)
as_declared = refl

left_out : kept_bytes frame kept ≡ (0 ∷ 0 ∷ 0 ∷ 0 ∷ []) ∷ (7 ∷ 0 ∷ 0 ∷ 0 ∷ []) ∷ []
unfolding band low_bytes
left_out = refl

meant : meaning frame 1 ≡ Some (7 ∷ 0 ∷ 0 ∷ 0 ∷ [])
unfolding band low_bytes
meant = refl

read : host_bytes program order 0 ≡ Some (7 ∷ 0 ∷ 0 ∷ 0 ∷ [])
unfolding band low_bytes
read = refl
