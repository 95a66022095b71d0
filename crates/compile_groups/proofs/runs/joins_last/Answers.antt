use Rattle.std.proofs.Common.{ap, ◌∙◌, ◌-◌, length}
use Rattle.std.specs.Prelude.{slice_get}
use Rattle.compile_groups.proofs.Continued.{last_got}
use Rattle.compile_groups.proofs.runs.joins_last.Goals as goal
use Rattle.compile_groups.specs.Groups.{joins}

pub returns-in-Some : goal.returns-in-Some
returns-in-Some c = c.joins.ensures ∙ last_got (joins c.args.families.now c.args.sharings.now) c.args.run.now c.args.one c.in-Some.last.now (c.in-Some.ensures.value ∙ ap (λ l. slice_get l (length l - 1)) c.deref.ensures)
