use Rattle.std.proofs.Common.{◌++◌}
use Rattle.report_json.proofs.PlaceEntries.{place_more}
use Rattle.report_json.proofs.place.add_places.Goals as goal
use Rattle.report_json.specs.Json.{entries}
use Rattle.report_json.specs.Places.{placed_at}

pub loop-k-preserved : goal.loop-k-preserved
loop-k-preserved c =
    let offsets = c.args.placement.now.offsets in
    place_more c.args.frame.now offsets c.args.sizes.now c.args.units.now c.loop-k.k c.offset-offset.result c.loop-k.text c.add_comma.new.text c.add_place.new.text (c.args.text.now ++ entries (placed_at c.args.frame.now offsets c.args.sizes.now) 0 c.args.units.now) c.loop-k-test.true c.in_ok-add_comma.ensures c.offset-offset.ensures c.in_ok-add_place.ensures c.loop-k.invariant
