use Rattle.compile_queues.proofs.Walking.{place_more}
use Rattle.compile_queues.proofs.work.places_of.Goals as goal

pub loop-j-preserved : goal.loop-j-preserved
loop-j-preserved c = place_more c.args.uses.now c.args.command c.loop-j.j _ c.loop-j.places c.push_place.new.places c.loop-j-test.true c.loop-j.invariant c.in_ok-push_place.ensures
