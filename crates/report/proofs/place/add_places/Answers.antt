use Rattle.std.proofs.Common.{◌++◌}
use Rattle.report.specs.PlaceLines.{place_lines}
use Rattle.report.proofs.Places.{line_more}
use Rattle.report.proofs.place.add_places.Goals as goal

pub loop-k-preserved : goal.loop-k-preserved
loop-k-preserved c =
    let offsets = c.args.placement.now.offsets in
    line_more c.args.frame.now c.args.sizes.now offsets c.args.units.now c.loop-k.k c.offset-offset.result c.loop-k.text c.add_place.new.text (c.args.text.now ++ place_lines c.args.frame.now c.args.sizes.now offsets 0 c.args.units.now) c.loop-k-test.true c.offset-offset.ensures c.in_ok-add_place.ensures c.loop-k.invariant
