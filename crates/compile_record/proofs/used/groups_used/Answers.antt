use Rattle.std.proofs.Common.{◌≤◌, length, subst}
use Rattle.compile_groups.specs.Needs.{uses_at}
use Rattle.compile_record.proofs.Told.{told_end}
use Rattle.compile_record.proofs.used.groups_used.Goals as goal

pub returns : goal.returns
returns c = told_end c.args.command (uses_at c.args.groups.now) c.loop-one.list c.loop-one.one-index (subst (λ l. length l ≤ c.loop-one.one-index) c.uses-one-items.ensures c.loop-one-test.false) c.loop-one.invariant
