use Rattle.top.proofs.ToldLemmas.{told_of}
use Rattle.top.proofs.telling.tell.Goals as goal

pub returns-in-Some : goal.returns-in-Some
returns-in-Some g c =
    told_of _ _ c.args.taps.now.items c.serve_all.new.taps.items c.serve_all.new.spent.items c.serve_all.new.places.items c.args.history.now c.in-Some.history c.as_slice.result.now c.in-Some.is c.as_slice.ensures c.serve_all.ensures
