use Rattle.std.proofs.Common.{◌≡◌, ◌++◌, drop}
use Rattle.report_json.specs.Bounds.{chosen_unit}
use Rattle.report_json.specs.Json.{entries}
use Rattle.report_json.proofs.bound.add_chosen.Given as goal

abbrev pub invariant-loop-entry : goal.invariant-loop-entry
invariant-loop-entry l = l.text ++ entries (chosen_unit l.frame l.units) l.entry (drop l.entry l.chosen) ≡ l.fn.text ++ entries (chosen_unit l.frame l.units) 0 l.chosen
