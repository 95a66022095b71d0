-- How many passes a valid frame has.
use Rattle.std.proofs.Common.{◌≤◌, length}
use Rattle.frame.specs.Valid.{IsValid}
use Rattle.frame.specs.Numbered.{numbered, numbered_pass}
use Rattle.frame.specs.Units.{numbering}
use Rattle.frame.specs.declared.frame.Frame.{Frame}
use Rattle.std.proofs.lemmas.List.{length-map}

pub few : (frame : Frame) → IsValid (numbered frame) → length frame.passes ≤ 256
few frame good = rw (← length-map frame.passes (numbered_pass frame (numbering frame))) good.few_passes
