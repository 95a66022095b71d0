-- Worked rows: the passes of small frames.
use Rattle.std.proofs.Common.{◌≡◌, [], ◌∷◌, codes, None, true, false, refl}
use Rattle.std.specs.Fmt.{digits}
use Rattle.base.specs.declared.op.Fun.TheVariants.{Add, Xor}
use Rattle.base.specs.declared.op.Op.TheVariants.{CopyImage, Ramp, Map, Combine, Box3}
use Rattle.base.specs.declared.shape.Shape.TheVariants.{Image}
use Rattle.base.specs.declared.shape.Texel.TheVariants.{R32}
use Rattle.vk.specs.declared.sharing.Sharing.TheVariants.{Exclusive}
use Rattle.frame_gen.specs.Internal.Numbers.{numbered_at}
use Rattle.frame_gen.specs.Generated.{exported, generated, queues}
use Rattle.frame_gen.specs.Operations.{drawn}

one_pass : generated 0 1 ≡ record {
  queues = queues;
  resources = record { name = codes "r0"; shape = Image 64 64 R32; layers = 1; import = None; sharing = Exclusive } ∷ [];
  passes = record { name = codes "p0"; queue = codes "g"; reads = []; writes = record { what = record { name = codes "r0"; layer = None }; fresh = true } ∷ []; ops = Ramp (record { name = codes "r0"; layer = None }) 0 1 64 ∷ []; side_effect = false } ∷ [];
  exports = record { name = codes "r0"; layer = None } ∷ [];
}
unfolding digits
one_pass = refl

sixth : drawn 7 6 ≡ 33742
sixth = refl

-- the first pass has nothing to read, whatever is drawn
of_four : (numbered_at 4 0).ops ≡ Ramp 0 4 1 64 ∷ []
of_four = refl

a_copy : numbered_at 44999 2 ≡ record { queue = 2; reads = 1 ∷ []; writes = record { what = 2; fresh = true } ∷ []; ops = CopyImage 1 2 0 0 0 0 64 64 ∷ []; side_effect = false }
a_copy = refl

two_sources : numbered_at 33742 6 ≡ record { queue = 1; reads = 4 ∷ 5 ∷ []; writes = record { what = 6; fresh = true } ∷ []; ops = Combine 4 5 6 Xor ∷ []; side_effect = false }
two_sources = refl

one_source_twice : (numbered_at 12 1).reads ≡ 0 ∷ []
one_source_twice = refl

a_map : (numbered_at 10061 5).ops ≡ Map 2 5 Add 10061 ∷ []
a_map = refl

a_box : (numbered_at 40318 7).ops ≡ Box3 6 7 ∷ []
a_box = refl

sixteenths_and_the_last : exported 24 ≡ 15 ∷ 23 ∷ []
sixteenths_and_the_last = refl

last_once : exported 16 ≡ 15 ∷ []
last_once = refl
