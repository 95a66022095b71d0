use Rattle.std.proofs.Common.{◌≡◌, ◌&&◌, drop}
use Rattle.std.specs.List.{list_any}
use Rattle.device_nodes.proofs.marks.stores_over.Given as goal
use Rattle.check_access.specs.AccessKinds.{changes}
use Rattle.check_access.specs.Views.{overlap}

abbrev pub invariant-loop-a : goal.invariant-loop-a
invariant-loop-a l = list_any (λ a. changes a.kind && overlap l.view a.piece l.piece) (drop l.a-index l.a-items) ≡ list_any (λ a. changes a.kind && overlap l.view a.piece l.piece) l.a-items
