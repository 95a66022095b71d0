use Rattle.std.proofs.Common.{◌≡◌, drop, length}
use Rattle.flight.specs.Internal.Left.{last_left, nothing_left}
use Rattle.flight.proofs.window.last_left.Given as goal

abbrev pub invariant-loop-i : goal.invariant-loop-i
invariant-loop-i l = record {
  each : length l.left ≡ length l.persist;
  so_far : last_left l.persist l.i l.left (drop l.i l.frames) ≡ last_left l.persist 0 (nothing_left l.persist) l.frames;
}
