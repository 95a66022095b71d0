use Rattle.std.proofs.Common.{◌≡◌, take}
use Rattle.std.specs.List.{flat_map}
use Rattle.frame.specs.Numbered.{unit_writes}
use Rattle.frame.proofs.numbers.all_writes.Given as goal

abbrev pub invariant-loop-stored : goal.invariant-loop-stored
invariant-loop-stored l = l.writes ≡ flat_map unit_writes (take l.stored-index l.entries)
