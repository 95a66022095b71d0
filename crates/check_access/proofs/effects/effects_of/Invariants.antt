use Rattle.std.proofs.Common.{◌≡◌, map, take}
use Rattle.program.specs.Entries.{entries_of}
use Rattle.program.specs.Rules.{shapes_of}
use Rattle.check_access.specs.Effects.{entry_effect}
use Rattle.check_access.proofs.effects.effects_of.Given as goal

abbrev pub invariant-loop-n : goal.invariant-loop-n
invariant-loop-n l = l.effects ≡ map (entry_effect (shapes_of l.shaped)) (take l.n (entries_of l.shaped))
