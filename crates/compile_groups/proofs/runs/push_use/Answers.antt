use Rattle.std.proofs.Common.{rules}
use Rattle.compile_groups.proofs.Continued.{added_ok}
use Rattle.compile_groups.proofs.runs.push_use.Goals as goal
use Rattle.compile_groups.specs.Groups.{joins}

pub returns-in-Some : goal.returns-in-Some
returns-in-Some c = added_ok c.push_after.result (joins c.args.families.now c.args.sharings.now) c.args.one c.args.runs.now c.pop.new.self c.push_after.new.runs c.in-Some.run' (search rules) c.push_after.ensures
