use Rattle.std.proofs.Common.{◌≡◌, ◌++◌, drop}
use Rattle.report_json.specs.Faults.{leg_at}
use Rattle.report_json.specs.Json.{entries}
use Rattle.report_json.proofs.path.add_legs.Given as goal

abbrev pub invariant-loop-k : goal.invariant-loop-k
invariant-loop-k l = l.text ++ entries leg_at l.k (drop l.k l.location) ≡ l.fn.text ++ entries leg_at 0 l.location
