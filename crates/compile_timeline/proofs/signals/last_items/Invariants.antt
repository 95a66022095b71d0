use Rattle.compile_timeline.specs.Internal.Counts.{HasLasts}
use Rattle.compile_timeline.proofs.signals.last_items.Given as goal

abbrev pub invariant-loop-at : goal.invariant-loop-at
invariant-loop-at l = HasLasts l.script l.count l.at l.lasts
