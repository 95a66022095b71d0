use Rattle.std.proofs.Common.{◌≡◌, map}
use Rattle.std.specs.List.{range_with_len}
use Rattle.compile_queues.specs.Internal.Spans.{joined, span_before, span_of}
use Rattle.compile_queues.proofs.spans.spans_of.Given as goal

abbrev pub invariant-loop-j : goal.invariant-loop-j
invariant-loop-j l = record {
  spans : l.spans ≡ map (span_of (joined l.families l.sharings l.queues) l.uses) (range_with_len 0 l.j);
  span : l.span ≡ span_before (joined l.families l.sharings l.queues) l.uses l.j;
}
