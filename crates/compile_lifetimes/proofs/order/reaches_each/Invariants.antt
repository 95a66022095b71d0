use Rattle.std.proofs.Common.{◌≡◌, true, take}
use Rattle.std.specs.List.{list_all}
use Rattle.compile_groups.specs.declared.unit_use.Use.{Use}
use Rattle.compile_lifetimes.proofs.order.reaches_each.Given as goal
use Rattle.base_reach.specs.Pairs.{has}

abbrev pub invariant-loop-v : goal.invariant-loop-v
invariant-loop-v l = list_all (λ (v : Use). has l.rows l.from v.command) (take l.v-index l.others) ≡ true
