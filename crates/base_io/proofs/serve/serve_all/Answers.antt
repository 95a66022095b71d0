use Rattle.std.proofs.Common.{arith, length, ◌<◌, ap}
use Rattle.base_io.proofs.Serving.{serving_none, serving_stays, serving_ends, are_served}
use Rattle.base_io.proofs.serve.serve_all.Goals as goal
use Rattle.base_io.proofs.serve.serve_all.Goals.{then-serve_at, else-serve_at}

pub loop-place-init : goal.loop-place-init
loop-place-init g c =
    record {
      so_far = rw (c.requires.no_spent, c.requires.no_places) (serving_none _ _ _ c.args.taps.now.items);
      spent_room = c.requires.spent_room;
      places_room = c.requires.places_room;
      spent_few = omega (arith, c.args.spent.now.ok.0, ap length c.requires.no_spent);
      places_few = omega (arith, c.args.places.now.ok.0, ap length c.requires.no_places);
    }

pub loop-place-preserved : goal.loop-place-preserved
loop-place-preserved g c =
    let more : c.loop-place.place < length c.args.taps.now.items = omega (arith, c.args.taps.now.ok.0) in
    elim c.if-serve_at.branch [
      | then-serve_at w ↦ rw (w.taps-is, w.spent-is, w.places-is, w.at-is) (record {
        so_far = serving_ends _ _ _ c.args.taps.now.items c.loop-place.taps.items c.serve_at.new.taps.items w.move_item.new.from.items c.loop-place.spent.items w.move_item.new.to.items c.loop-place.places.items w.push_within.new.places.items c.loop-place.place c.loop-place.at c.loop-place.invariant.so_far more (rw w.if-serve_at.true at c.serve_at.ensures) w.move_item.ensures.from w.move_item.ensures.to w.push_within.ensures.items;
        spent_room = omega arith;
        places_room = omega arith;
        spent_few = omega arith;
        places_few = omega arith;
      })
      | else-serve_at w ↦ rw (w.taps-is, w.spent-is, w.places-is, w.at-is) (record {
        so_far = serving_stays _ _ _ c.args.taps.now.items c.loop-place.taps.items c.serve_at.new.taps.items c.loop-place.spent.items c.loop-place.places.items c.loop-place.place c.loop-place.at c.loop-place.invariant.so_far more (rw w.if-serve_at.false at c.serve_at.ensures);
        spent_room = omega arith;
        places_room = omega arith;
        spent_few = omega arith;
        places_few = omega arith;
      })
    ]

pub returns : goal.returns
returns g c = are_served _ _ _ c.args.taps.now.items c.loop-place.taps.items c.loop-place.spent.items c.loop-place.places.items c.loop-place.place c.loop-place.at c.loop-place.invariant.so_far (omega (arith, c.args.taps.now.ok.0))
