-- What is kept of a frame.
use Rattle.std.proofs.Common.{◌≡◌, ◌∙◌, Bool, List, length}
use Rattle.std.proofs.lemmas.List.{length-map}
use Rattle.frame.specs.Numbered.{numbered, numbered_pass}
use Rattle.frame.specs.Units.{numbering}
use Rattle.frame.specs.declared.frame.Frame.{Frame}
use Rattle.frame_cull.specs.Culled.{AreKept}

-- a flag for each pass
pub one_each : (frame : Frame) (kept : List Bool) → AreKept (numbered frame) kept → length kept ≡ length frame.passes
one_each frame kept are = are.count ∙ length-map frame.passes (numbered_pass frame (numbering frame))
