-- Worked rows: the first fault of small frames.
use Rattle.std.proofs.Common.{◌≡◌, ℕ, List, [], ◌∷◌, Some, None, true, false, codes, refl, replicate}
use Rattle.base.specs.Broken.{of_rule}
use Rattle.base.specs.declared.limit.Limit.TheVariants as limits
use Rattle.base.specs.declared.op.Op.{Op}
use Rattle.base.specs.declared.op.Op.TheVariants.{FillBuffer, ClearImage, Map}
use Rattle.base.specs.declared.op.Fun.TheVariants.{Add}
use Rattle.base.specs.declared.shape.Family.{Family}
use Rattle.base.specs.declared.shape.Family.TheVariants.{Graphics, Transfer}
use Rattle.base.specs.declared.shape.Shape.TheVariants.{Buffer, Image}
use Rattle.base.specs.declared.shape.Texel.TheVariants.{R32}
use Rattle.vk.specs.declared.sharing.Sharing.TheVariants.{Exclusive}
use Rattle.frame.specs.FirstFault.{first_broken}
use Rattle.frame.specs.Limits.{over}
use Rattle.frame.specs.Numbered.{numbered}
use Rattle.frame.specs.declared.frame.Frame.{Frame}
use Rattle.frame.specs.declared.frame.Spot.{Spot}
use Rattle.frame.specs.declared.frame.Write.{Write}
use Rattle.frame.specs.declared.location.Operand.TheVariants.{Src, Dst}
use Rattle.frame.specs.declared.location.Location.TheVariants as at
use Rattle.frame.specs.declared.rule.Rule.TheVariants as rules

abbrev all : List ℕ → Spot
all name = record { name = name; layer = None }

abbrev layer : List ℕ → ℕ → Spot
layer name n = record { name = name; layer = Some n }

abbrev new : Spot → Write Spot
new spot = record { what = spot; fresh = true }

abbrev change : Spot → Write Spot
change spot = record { what = spot; fresh = false }

-- a frame with one queue, the buffer b of 16 bytes, the image im with two layers of 4 bytes, and one pass
abbrev frame : Family → List Spot → List (Write Spot) → List (Op Spot) → List Spot → Frame
frame family reads writes ops exports = record {
  queues = record { name = codes "g"; family = family } ∷ [];
  resources = record { name = codes "b"; shape = Buffer 16; layers = 1; import = None; sharing = Exclusive } ∷ record { name = codes "im"; shape = Image 1 1 R32; layers = 2; import = None; sharing = Exclusive } ∷ [];
  passes = record { name = codes "p"; queue = codes "g"; reads = reads; writes = writes; ops = ops; side_effect = false } ∷ [];
  exports = exports;
}

abbrev fill : ℕ → Op Spot
fill size = FillBuffer (all (codes "b")) 0 size 7

good : first_broken (frame Graphics [] (new (all (codes "b")) ∷ []) (fill 16 ∷ []) (all (codes "b") ∷ [])) ≡ None
good = refl

-- a write that is declared as a change of contents that nothing wrote
not_there : first_broken (frame Graphics [] (change (all (codes "b")) ∷ []) (fill 16 ∷ []) (all (codes "b") ∷ [])) ≡ Some (of_rule rules.Unwritten (at.Write 0 0))
not_there = refl

-- new contents of which the first store leaves a part
half : first_broken (frame Graphics [] (new (all (codes "b")) ∷ []) (fill 8 ∷ []) (all (codes "b") ∷ [])) ≡ Some (of_rule rules.Whole (at.Write 0 0))
half = refl

-- the image is cleared on a queue that cannot
clear_on_transfer : first_broken (frame Transfer [] (new (layer (codes "im") 1) ∷ []) (ClearImage (layer (codes "im") 1) 0 ∷ []) []) ≡ Some (of_rule rules.Runs (at.Op 0 0))
clear_on_transfer = refl

-- the whole image beside one of its layers
layers_clash : first_broken (frame Graphics (layer (codes "im") 0 ∷ all (codes "im") ∷ []) [] [] []) ≡ Some (of_rule rules.Repeated (at.Read 0 1))
layers_clash = refl

past_the_last_layer : first_broken (frame Graphics (layer (codes "im") 1 ∷ layer (codes "im") 2 ∷ []) [] [] []) ≡ Some (of_rule rules.Unknown (at.Read 0 1))
past_the_last_layer = refl

layer_of_a_buffer : first_broken (frame Graphics (layer (codes "b") 0 ∷ []) [] [] []) ≡ Some (of_rule rules.Unknown (at.Read 0 0))
layer_of_a_buffer = refl

-- an operand has to say which layer
which_layer : first_broken (frame Graphics [] (new (all (codes "im")) ∷ []) (ClearImage (all (codes "im")) 0 ∷ []) []) ≡ Some (of_rule rules.Unknown (at.Operand 0 0 Dst))
which_layer = refl

-- of a write that names both layers only the first is stored
one_layer_left : first_broken (frame Graphics [] (new (all (codes "im")) ∷ []) (ClearImage (layer (codes "im") 0) 0 ∷ []) []) ≡ Some (of_rule rules.Whole (at.Write 0 0))
one_layer_left = refl

-- in place: the store is whole, so the new contents are no fault
in_place : first_broken (frame Graphics [] (new (all (codes "b")) ∷ []) (Map (all (codes "b")) (all (codes "b")) Add 1 ∷ []) []) ≡ Some (of_rule rules.InPlace (at.Operand 0 0 Dst))
in_place = refl

undeclared_source : first_broken (frame Graphics [] (new (layer (codes "im") 0) ∷ []) (Map (layer (codes "im") 1) (layer (codes "im") 0) Add 1 ∷ []) []) ≡ Some (of_rule rules.Declared (at.Operand 0 0 Src))
undeclared_source = refl

-- exports stand for all layers: 33 of one buffer are one too many, before it is seen that they repeat
too_many_exports : first_broken (frame Graphics [] [] [] (replicate 33 (all (codes "b")))) ≡ Some (over limits.Exports at.Exports)
too_many_exports = refl

-- units: the buffer is 0, the layers of the image 1 and 2
numbers : (numbered (frame Graphics (all (codes "im") ∷ layer (codes "im") 1 ∷ []) [] [] (all (codes "b") ∷ layer (codes "im") 0 ∷ []))).exports ≡ 0 ∷ 1 ∷ []
numbers = refl
