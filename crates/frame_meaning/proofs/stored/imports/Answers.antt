use Rattle.std.proofs.Common.{subst, ◌<◌, is_some}
use Rattle.frame.specs.Numbered.{numbered}
use Rattle.frame_meaning.proofs.Lists.{entry_on}
use Rattle.frame_meaning.proofs.stored.imports.Goals as goal

pub loop-unit-preserved : goal.loop-unit-preserved
loop-unit-preserved c = entry_on (λ u. is_some u.imported) (numbered c.args.frame.now).units c.loop-unit.marks c.push.new.self c.loop-unit.unit c.is_import.result (subst (λ m. c.loop-unit.unit < m) c.unit_count-unit-end.ensures.count c.loop-unit-test.true) c.loop-unit.invariant c.is_import.ensures c.in_ok-push.ensures.ok
