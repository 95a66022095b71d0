use Rattle.std.proofs.Common.{◌≡◌, ◌++◌, drop, length}
use Rattle.flight.specs.Internal.Left.{nothing_left}
use Rattle.flight.specs.Internal.WindowParts.{all_passes}
use Rattle.flight.proofs.window.all_passes.Given as goal

abbrev pub invariant-loop-i : goal.invariant-loop-i
invariant-loop-i l = record {
  each : length l.left ≡ length l.persist;
  so_far : l.passes ++ all_passes l.queue l.persist l.i l.left (drop l.i l.frames) ≡ all_passes l.queue l.persist 0 (nothing_left l.persist) l.frames;
}
