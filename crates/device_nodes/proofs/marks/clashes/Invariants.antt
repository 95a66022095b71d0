use Rattle.std.proofs.Common.{◌≡◌, ◌&&◌, not, drop}
use Rattle.std.specs.List.{list_any}
use Rattle.device_nodes.proofs.marks.clashes.Given as goal
use Rattle.check_access.specs.AccessKinds.{transfers}
use Rattle.check_access.specs.Views.{clash}

abbrev pub invariant-loop-b : goal.invariant-loop-b
invariant-loop-b l = list_any (λ b. not (transfers b.kind) && clash l.view l.a b) (drop l.b-index l.b-items) ≡ list_any (λ b. not (transfers b.kind) && clash l.view l.a b) l.b-items
