use Rattle.std.proofs.Common.{◌≡◌, ◌++◌, drop}
use Rattle.compile_queues.specs.Internal.Work.{kept_owners}
use Rattle.frame.specs.Numbered.{numbered}
use Rattle.compile_queues.proofs.owners.kept_owners.Given as goal

abbrev pub invariant-loop-pass : goal.invariant-loop-pass
invariant-loop-pass l = l.list ++ kept_owners l.pass (drop l.pass (numbered l.frame).passes) (drop l.pass l.kept) ≡ kept_owners 0 (numbered l.frame).passes l.kept
