use Rattle.std.proofs.Common.{◌≡◌, map, take}
use Rattle.frame.specs.Numbered.{numbered}
use Rattle.frame_meaning.specs.Meaning.{first_bytes}
use Rattle.frame_meaning.proofs.bytes.Bytes.new.Given as goal

abbrev pub invariant-loop-unit : goal.invariant-loop-unit
invariant-loop-unit l = l.units.items ≡ map first_bytes (take l.unit (numbered l.frame).units)
