use Rattle.frame.specs.Numbered.{numbered}
use Rattle.frame_cull.proofs.Grow.{row_pushed, small_pushed}
use Rattle.frame_cull.proofs.makers.Makers.new.Goals as goal

pub loop-unit-preserved : goal.loop-unit-preserved
loop-unit-preserved c = record {
  rows = row_pushed (numbered c.args.frame.now) c.loop-unit.unit c.loop-unit.rows.items c.push.new.self.items c.in_ok-imported.field-0 c.loop-unit.invariant.rows c.in_ok-imported.ensures.row c.in_ok-push.ensures.items;
  small = small_pushed c.loop-unit.rows.items c.push.new.self.items c.in_ok-imported.field-0 c.loop-unit.invariant.small c.in_ok-imported.ensures.small c.in_ok-push.ensures.items;
}
