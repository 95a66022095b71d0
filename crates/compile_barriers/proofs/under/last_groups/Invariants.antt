use Rattle.compile_barriers.specs.Internal.Lasts.{AreLasts}
use Rattle.compile_barriers.proofs.under.last_groups.Given as goal

abbrev pub invariant-loop-g : goal.invariant-loop-g
invariant-loop-g l = AreLasts l.groups l.g l.lasts
