use Rattle.std.proofs.Common.{◌≤◌, ◌*◌}
use Rattle.top.proofs.totals.total_of.Given as goal
use Rattle.top.specs.Internal.Totals.{IsTotal}
use Rattle.device_run.specs.Runs.{read_by}

abbrev pub invariant-loop-k : goal.invariant-loop-k
invariant-loop-k l =
    record {
      total : IsTotal (read_by l.device) l.k l.total;
      small : l.total.bytes ≤ 16777216 * l.k;
      low : l.total.sum ≤ 255 * l.total.bytes;
    }
