use Rattle.std.proofs.Common.{◌≡◌, true, take}
use Rattle.compile_lifetimes.specs.Internal.Lifetimes.{all_reach}
use Rattle.compile_lifetimes.proofs.order.all_reach.Given as goal
use Rattle.base_reach.specs.Pairs.{has}

abbrev pub invariant-loop-u : goal.invariant-loop-u
invariant-loop-u l = all_reach (has l.rows) (take l.u-index l.uses) l.others ≡ true
