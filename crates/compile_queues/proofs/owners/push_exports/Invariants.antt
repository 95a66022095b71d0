use Rattle.std.proofs.Common.{◌≡◌, ◌++◌, map, drop}
use Rattle.compile_queues.specs.Internal.Work.{export_owner}
use Rattle.frame.specs.Numbered.{numbered}
use Rattle.compile_queues.proofs.owners.push_exports.Given as goal

abbrev pub invariant-loop-unit : goal.invariant-loop-unit
invariant-loop-unit l = l.list ++ map (export_owner (numbered l.frame)) (drop l.unit-index l.exports) ≡ l.fn.list ++ map (export_owner (numbered l.frame)) l.exports
