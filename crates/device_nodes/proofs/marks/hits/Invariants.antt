use Rattle.std.proofs.Common.{◌≡◌, ◌&&◌, not, drop}
use Rattle.std.specs.List.{list_any}
use Rattle.device_nodes.proofs.marks.hits.Given as goal
use Rattle.check_access.specs.AccessKinds.{changes, transfers}
use Rattle.check_access.specs.Views.{accesses_of, clash}

abbrev pub invariant-loop-a : goal.invariant-loop-a
invariant-loop-a l = list_any (λ a. changes a.kind && list_any (λ b. not (transfers b.kind) && clash l.view a b) (accesses_of l.view l.n)) (drop l.a-index l.a-items) ≡ list_any (λ a. changes a.kind && list_any (λ b. not (transfers b.kind) && clash l.view a b) (accesses_of l.view l.n)) l.a-items
