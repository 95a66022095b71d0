use Rattle.std.proofs.Common.{◌≡◌}
use Rattle.compile_timeline.specs.Internal.Counts.{signalled_below, values_below, HasCounts}
use Rattle.compile_timeline.proofs.signals.signals_of.Given as goal

abbrev pub invariant-loop-at : goal.invariant-loop-at
invariant-loop-at l = record {
  counts : HasCounts l.script l.count l.at l.counts;
  signalled : l.signalled ≡ signalled_below l.script l.count l.at;
  values : l.values ≡ values_below l.script l.count l.at;
}
