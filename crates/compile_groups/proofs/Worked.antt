-- Worked rows: small frames, their commands and their groups.
use Rattle.std.proofs.Common.{◌≡◌, ℕ, true, false, List, [], ◌∷◌, map, Some, None, refl}
use Rattle.base.specs.declared.op.Fun.TheVariants.{Add}
use Rattle.base.specs.declared.op.Op.{Op}
use Rattle.base.specs.declared.op.Op.TheVariants.{FillBuffer, CopyBuffer, ImageToBuffer, Ramp, Map, Combine}
use Rattle.base.specs.declared.shape.Family.TheVariants.{Graphics, Compute, Transfer}
use Rattle.base.specs.declared.shape.Shape.{Shape}
use Rattle.base.specs.declared.shape.Shape.TheVariants.{Buffer, Image}
use Rattle.base.specs.declared.shape.Texel.TheVariants.{R32}
use Rattle.vk.specs.declared.sharing.Sharing.{Sharing}
use Rattle.vk.specs.declared.sharing.Sharing.TheVariants.{Exclusive, Concurrent}
use Rattle.frame.specs.Numbered.{NumberedFrame}
use Rattle.frame.specs.Units as frames
use Rattle.frame.specs.declared.frame.Write.{Write}
use Rattle.frame.specs.declared.numbered.NumberedPass.{NumberedPass}
use Rattle.compile_groups.specs.Groups.{grouping}
use Rattle.compile_groups.specs.Needs.{leads, uses_at}
use Rattle.compile_groups.specs.Placed.{placed, sizes}
use Rattle.compile_groups.specs.declared.command.Command.{Command}
use Rattle.compile_groups.specs.declared.grouping.Grouping.{Grouping}

-- FRAMES

abbrev unit : Shape → Sharing → frames.Unit
unit shape sharing = record { shape = shape; sharing = sharing; imported = None }

abbrev fresh : ℕ → Write ℕ
fresh what = record { what = what; fresh = true }

abbrev pass : ℕ → List ℕ → List (Write ℕ) → List (Op ℕ) → NumberedPass
pass queue reads writes ops = record { queue = queue; reads = reads; writes = writes; ops = ops; side_effect = false }

abbrev command : ℕ → Op ℕ → Command
command queue op = record { queue = queue; op = op; export = None }

-- for each group its commands
abbrev members : Grouping → List (List ℕ)
members G = map (map (λ u. u.command)) G.groups

-- AN IMAGE IS HANDED FROM COMPUTE TO GRAPHICS

abbrev square : frames.Unit
square = unit (Image 4 4 R32) Exclusive

abbrev ramp_and_map : NumberedFrame
ramp_and_map = record {
  units = square ∷ square ∷ [];
  queues = Graphics ∷ Compute ∷ [];
  passes = pass 1 [] (fresh 0 ∷ []) (Ramp 0 1 1 4 ∷ []) ∷ pass 0 (0 ∷ []) (fresh 1 ∷ []) (Map 0 1 Add 1 ∷ []) ∷ [];
  exports = 1 ∷ [];
}

abbrev ramped : Grouping
ramped = grouping ramp_and_map (true ∷ true ∷ [])

-- the copy of the export is on the queue of the pass that writes it
ramped_commands : ramped.commands ≡ command 1 (Ramp 0 1 1 4) ∷ command 0 (Map 0 1 Add 1) ∷ record { queue = 0; op = ImageToBuffer 1 2 0; export = Some 0 } ∷ []
ramped_commands = refl

-- each image is written, and then read
ramped_groups : members ramped ≡ (0 ∷ []) ∷ (1 ∷ []) ∷ (1 ∷ []) ∷ (2 ∷ []) ∷ []
ramped_groups = refl

ramped_needs : (leads ramped 0 1 ≡ true) × (leads ramped 1 2 ≡ true) × (leads ramped 0 2 ≡ false)
ramped_needs = (refl, refl, refl)

ramped_places : (placed ramped ≡ 0 ∷ 1 ∷ []) × (sizes ramped ≡ 64 ∷ 64 ∷ [])
ramped_places = (refl, refl)

ramped_uses : map (λ u. u.group) (uses_at ramped) ≡ 0 ∷ 1 ∷ 2 ∷ 3 ∷ []
ramped_uses = refl

-- A BUFFER IS READ BY TWO FAMILIES

abbrev bytes : ℕ → Sharing → frames.Unit
bytes size sharing = unit (Buffer size) sharing

abbrev two_readers : Sharing → NumberedFrame
two_readers sharing = record {
  units = bytes 16 sharing ∷ bytes 16 Exclusive ∷ bytes 16 Exclusive ∷ [];
  queues = Graphics ∷ Transfer ∷ [];
  passes =
      pass 0 [] (fresh 0 ∷ []) (FillBuffer 0 0 16 7 ∷ [])
      ∷ pass 1 (0 ∷ []) (fresh 1 ∷ []) (CopyBuffer 0 1 0 0 16 ∷ [])
      ∷ pass 0 (0 ∷ []) (fresh 2 ∷ []) (CopyBuffer 0 2 0 0 16 ∷ [])
      ∷ [];
  exports = [];
}

abbrev read_twice : Sharing → Grouping
read_twice sharing = grouping (two_readers sharing) (true ∷ true ∷ true ∷ [])

-- a concurrent unit groups across families
concurrent_groups : members (read_twice Concurrent) ≡ (0 ∷ []) ∷ (1 ∷ 2 ∷ []) ∷ (1 ∷ []) ∷ (2 ∷ []) ∷ []
concurrent_groups = refl

-- an exclusive one does not, and so the second reader waits for the first
exclusive_groups : members (read_twice Exclusive) ≡ (0 ∷ []) ∷ (1 ∷ []) ∷ (2 ∷ []) ∷ (1 ∷ []) ∷ (2 ∷ []) ∷ []
exclusive_groups = refl

readers_need : (leads (read_twice Concurrent) 1 2 ≡ false) × (leads (read_twice Exclusive) 1 2 ≡ true)
readers_need = (refl, refl)

-- a pass that is culled has no command
culled_pass : members (grouping (two_readers Concurrent) (true ∷ false ∷ true ∷ [])) ≡ (0 ∷ []) ∷ (1 ∷ []) ∷ (1 ∷ []) ∷ []
culled_pass = refl

-- ONE UNIT BY TWO OPERANDS, AND AN IMPORT THAT NO PASS WRITES

abbrev doubled : NumberedFrame
doubled = record {
  units = record { shape = Buffer 4; sharing = Exclusive; imported = Some (1 ∷ 0 ∷ 0 ∷ 0 ∷ []) } ∷ bytes 4 Exclusive ∷ [];
  queues = Transfer ∷ Compute ∷ [];
  passes = pass 1 (0 ∷ []) (fresh 1 ∷ []) (Combine 0 0 1 Add ∷ []) ∷ [];
  exports = 0 ∷ 1 ∷ [];
}

abbrev sum : Grouping
sum = grouping doubled (true ∷ [])

-- operand 1 is no use, and the import is copied on queue 0
sum_uses : map (λ u. u.operand) (uses_at sum) ≡ 0 ∷ 2 ∷ 0 ∷ 0 ∷ []
sum_uses = refl

sum_queues : map (λ c. c.queue) sum.commands ≡ 1 ∷ 0 ∷ 1 ∷ []
sum_queues = refl

sum_places : placed sum ≡ 1 ∷ []
sum_places = refl
