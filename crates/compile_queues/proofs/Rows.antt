-- Worked rows: what two small frames cost, on their queues and on others.
use Rattle.std.proofs.Common.{◌≡◌, ℕ, true, false, [], ◌∷◌, None, refl}
use Rattle.base.specs.declared.op.Op.TheVariants.{FillBuffer, Ramp}
use Rattle.base.specs.declared.shape.Family.TheVariants.{Graphics, Compute, Transfer}
use Rattle.base.specs.declared.shape.Shape.{Shape}
use Rattle.base.specs.declared.shape.Shape.TheVariants.{Buffer, Image}
use Rattle.base.specs.declared.shape.Texel.TheVariants.{R32}
use Rattle.vk.specs.declared.sharing.Sharing.TheVariants.{Exclusive}
use Rattle.frame.specs.Numbered.{NumberedFrame}
use Rattle.frame.specs.Units as frames
use Rattle.frame.specs.declared.numbered.NumberedPass.{NumberedPass}
use Rattle.compile_groups.specs.Groups.{grouping}
use Rattle.compile_groups.specs.Needs.{leads}
use Rattle.compile_groups.specs.declared.grouping.Grouping.{Grouping}
use Rattle.compile_queues.specs.Cost.{IsPath, costs, sum_of}
use Rattle.compile_queues.specs.Queues.{on_queues, queues_of, serves}

abbrev unit : Shape → frames.Unit
unit shape = record { shape = shape; sharing = Exclusive; imported = None }

-- a pass on queue 0 that makes a buffer new
abbrev makes : ℕ → NumberedPass
makes buffer = record { queue = 0; reads = []; writes = record { what = buffer; fresh = true } ∷ []; ops = Ramp buffer 1 1 0 ∷ []; side_effect = false }

-- TWO PASSES THAT DO NOT NEED EACH OTHER

abbrev side_by_side : NumberedFrame
side_by_side = record {
  units = unit (Buffer 16) ∷ unit (Buffer 16) ∷ [];
  queues = Graphics ∷ Compute ∷ [];
  passes = makes 0 ∷ makes 1 ∷ [];
  exports = 0 ∷ 1 ∷ [];
}

abbrev together : Grouping
together = grouping side_by_side (true ∷ true ∷ [])

abbrev apart : Grouping
apart = grouping (on_queues (1 ∷ 0 ∷ []) side_by_side) (true ∷ true ∷ [])

each_costs : costs together ≡ 1 ∷ 1 ∷ 1 ∷ 1 ∷ []
each_costs = refl

-- on one queue all four commands follow each other
one_chain : IsPath (leads together) (3 ∷ 2 ∷ 1 ∷ 0 ∷ [])
one_chain = (refl, (refl, (refl, tt)))

four : sum_of (costs together) (3 ∷ 2 ∷ 1 ∷ 0 ∷ []) ≡ 4
four = refl

-- on two queues each copy follows its own pass alone, on whose queue it is
two_chains : (leads apart 0 2 ≡ true) × (leads apart 1 3 ≡ true) × (leads apart 0 1 ≡ false) × (leads apart 0 3 ≡ false) × (leads apart 1 2 ≡ false) × (leads apart 2 3 ≡ false)
two_chains = (refl, refl, refl, refl, refl, refl)

two : sum_of (costs apart) (2 ∷ 0 ∷ []) ≡ 2
two = refl

moved_alone : queues_of (on_queues (1 ∷ 0 ∷ []) side_by_side) ≡ 1 ∷ 0 ∷ []
moved_alone = refl

-- WHAT A COMMAND COSTS

-- 64 by 64 texels of 4 bytes are four times 4,096 bytes
abbrev picture : NumberedFrame
picture = record { units = unit (Image 64 64 R32) ∷ []; queues = Graphics ∷ []; passes = makes 0 ∷ []; exports = 0 ∷ [] }

picture_costs : costs (grouping picture (true ∷ [])) ≡ 5 ∷ 5 ∷ []
picture_costs = refl

-- WHERE A PASS RUNS

fill_anywhere : serves (Transfer ∷ []) (record (makes 0) { ops = FillBuffer 0 0 16 7 ∷ [] }) 0 ≡ true
fill_anywhere = refl

no_kernel_on_transfer : (serves (Graphics ∷ Transfer ∷ []) (makes 0) 1 ≡ false) × (serves (Graphics ∷ Transfer ∷ []) (makes 0) 2 ≡ false)
no_kernel_on_transfer = (refl, refl)
