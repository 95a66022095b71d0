use Rattle.std.proofs.Common.{◌∙◌, ◌++◌, take}
use Rattle.std.proofs.KnownBytes.{Appends-trans}
use Rattle.top.proofs.Known.{whole-more}
use Rattle.top.proofs.output.write_text.Goals as goal

pub loop-rest-preserved : goal.loop-rest-preserved
loop-rest-preserved g c =
    let was = c.loop-rest.invariant in
    let rest = c.loop-rest.rest.now in
    record {
      front = was.front ++ take c.in-Took.count rest;
      whole = whole-more c.in-Took.count was.front rest c.args.text.now was.whole;
      taken = Appends-trans (g.O.Sink.taken c.args.output.now) (g.O.Sink.taken c.loop-rest.output) (g.O.Sink.taken c.write.new.self) was.front (take c.in-Took.count rest) was.taken c.in-Took.ensures.bytes;
      count = c.in-Took.ensures.count ∙ was.count;
    }
