use Prim.Native.Nat.{◌+◌, ◌*◌}
use Rattle.device_workers.proofs.run.+halves.Given as goal

abbrev pub decreases-Run::workers_from : goal.decreases-Run::workers_from
decreases-Run::workers_from g l = 2 * l.count

abbrev pub decreases-front : goal.decreases-front
decreases-front g l = 2 * l.low + 1

abbrev pub decreases-back : goal.decreases-back
decreases-back g l = 2 * l.high + 1
