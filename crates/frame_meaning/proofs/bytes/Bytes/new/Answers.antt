use Rattle.std.proofs.Common.{subst, ◌<◌}
use Rattle.frame.specs.Numbered.{numbered}
use Rattle.frame_meaning.proofs.Lists.{entry_on}
use Rattle.frame_meaning.specs.Meaning.{first_bytes}
use Rattle.frame_meaning.proofs.bytes.Bytes.new.Goals as goal

pub loop-unit-preserved : goal.loop-unit-preserved
loop-unit-preserved c = entry_on first_bytes (numbered c.args.frame.now).units c.loop-unit.units.items c.push.new.self.items c.loop-unit.unit c.in_ok-first_bytes.field-0 (subst (λ m. c.loop-unit.unit < m) c.unit_count-unit-end.ensures.count c.loop-unit-test.true) c.loop-unit.invariant c.in_ok-first_bytes.ensures c.in_ok-push.ensures.items
