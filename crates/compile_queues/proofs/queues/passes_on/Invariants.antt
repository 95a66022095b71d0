use Rattle.std.proofs.Common.{◌≡◌, length, take}
use Rattle.compile_queues.specs.Renamed.{passes_on}
use Rattle.compile_queues.proofs.queues.passes_on.Given as goal

abbrev pub invariant-loop-pass : goal.invariant-loop-pass
invariant-loop-pass l = record {
  count : l.p ≡ length l.yielded;
  list : l.list ≡ passes_on (take l.p l.names) l.yielded;
}
