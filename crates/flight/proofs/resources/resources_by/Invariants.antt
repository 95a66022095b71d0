use Rattle.std.proofs.Common.{◌≡◌, drop}
use Rattle.flight.specs.Internal.Left.{imports_by}
use Rattle.law_window.specs.Resources.{renamed_resources, set_imports}
use Rattle.flight.proofs.resources.resources_by.Given as goal

abbrev pub invariant-loop-k : goal.invariant-loop-k
invariant-loop-k l = set_imports (drop l.k l.holders) (imports_by (drop l.k l.persisted) (drop l.k l.left)) l.all.items ≡ set_imports l.holders (imports_by l.persisted l.left) (renamed_resources l.i 0 l.resources)
