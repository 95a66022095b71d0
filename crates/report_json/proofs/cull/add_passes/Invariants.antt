use Rattle.std.proofs.Common.{◌≡◌, ◌++◌, drop}
use Rattle.report_json.specs.Culls.{pass_of}
use Rattle.report_json.specs.Json.{entries}
use Rattle.report_json.proofs.cull.add_passes.Given as goal

abbrev pub invariant-loop-p : goal.invariant-loop-p
invariant-loop-p l = l.text ++ entries (pass_of l.kept) l.p (drop l.p l.passes) ≡ l.fn.text ++ entries (pass_of l.kept) 0 l.passes
