use Rattle.std.proofs.Common.{◌≡◌, ◌++◌, length, take, drop}
use Rattle.flight.specs.Alone.{persisted_next}
use Rattle.flight.specs.Exported.{persisted_export}
use Rattle.flight_file.proofs.persisted.hold.Given as goal
use Rattle.device_run.specs.Runs.{read_by}

abbrev pub invariant-loop-k : goal.invariant-loop-k
invariant-loop-k l = record {
  many : length l.persisted ≡ length l.fn.persisted;
  so_far : take l.k l.persisted ++ persisted_next (persisted_export l.windows.frames l.windows.persist l.windows.depth l.w) (read_by l.device) l.k (drop l.k l.persisted) ≡ persisted_next (persisted_export l.windows.frames l.windows.persist l.windows.depth l.w) (read_by l.device) 0 l.fn.persisted;
}
