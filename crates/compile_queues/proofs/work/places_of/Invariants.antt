use Rattle.std.proofs.Common.{◌≡◌, ◌==◌}
use Rattle.std.specs.List.{filter, range_with_len}
use Rattle.compile_queues.specs.Internal.Spans.{use_at}
use Rattle.compile_queues.proofs.work.places_of.Given as goal

abbrev pub invariant-loop-j : goal.invariant-loop-j
invariant-loop-j l = l.places ≡ filter (λ j. (use_at l.uses j).command == l.command) (range_with_len 0 l.j)
