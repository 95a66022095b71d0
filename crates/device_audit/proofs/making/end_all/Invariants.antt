use Rattle.std.proofs.Common.{◌≡◌, ℕ, ◌<◌, length, vec_len}
use Rattle.device_audit.proofs.making.end_all.Given as goal
use Rattle.device_audit.specs.Internal.Following.{held_of}
use Rattle.device_model.specs.Devices.{view_in, IsComplete}

abbrev pub invariant-loop-done : goal.invariant-loop-done
invariant-loop-done l = record {
  program : l.device.program ≡ l.fn.device.program;
  same : IsComplete l.fn.device → l.device ≡ l.fn.device;
  within : (n : ℕ) → 0 < held_of n l.begun.items → n < length (view_in l.fn.device).nodes;
}

abbrev pub decreases-loop-done : goal.decreases-loop-done
decreases-loop-done l = vec_len l.begun
