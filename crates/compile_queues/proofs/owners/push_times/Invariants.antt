use Rattle.std.proofs.Common.{◌≡◌, ◌++◌, Some, replicate}
use Rattle.compile_queues.proofs.owners.push_times.Given as goal

abbrev pub invariant-loop-op : goal.invariant-loop-op
invariant-loop-op l = l.list ≡ l.fn.list ++ replicate l._op (Some l.pass)
