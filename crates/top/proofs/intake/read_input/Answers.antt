use Rattle.std.proofs.Common.{length, ◌<◌, ◌+◌, arith, inr}
use Rattle.std.proofs.KnownBytes.{Consumes-trans}
use Rattle.std.proofs.lemmas.Grind.{common_steps}
use Rattle.top.proofs.Known.{over_limit, TakesWhole-end, TakesAtMost-more, Tells-whole}
use Rattle.top.proofs.intake.read_input.Goals as goal

pub loop-bytes-preserved : goal.loop-bytes-preserved
loop-bytes-preserved g c = grind (arith, common_steps, Consumes-trans)

pub returns-in-End-clause-intake : goal.returns-in-End-clause-intake
returns-in-End-clause-intake g c = grind (arith, common_steps, TakesWhole-end, Tells-whole)

pub returns-in-Fault-clause-taken : goal.returns-in-Fault-clause-taken
returns-in-Fault-clause-taken g c =
    TakesAtMost-more (g.I.Source.left c.args.input.now) (g.I.Source.left c.loop-bytes.input) (g.I.Source.left c.read_some.new.input) c.loop-bytes.bytes.items _ (c.args.limit + 1) c.loop-bytes.invariant.taken c.read_some.ensures.taken (grind (arith, common_steps))

pub returns-in-NoMemory-clause-taken : goal.returns-in-NoMemory-clause-taken
returns-in-NoMemory-clause-taken g c =
    TakesAtMost-more (g.I.Source.left c.args.input.now) (g.I.Source.left c.loop-bytes.input) (g.I.Source.left c.read_some.new.input) c.loop-bytes.bytes.items _ (c.args.limit + 1) c.loop-bytes.invariant.taken c.read_some.ensures.taken (grind (arith, common_steps))

pub returns-clause-intake : goal.returns-clause-intake
returns-clause-intake g c =
    let was = c.loop-bytes.invariant in
    let over : c.args.limit < length c.loop-bytes.bytes.items = omega (arith, c.loop-bytes.bytes.ok.0) in
    (over_limit (g.I.Source.left c.args.input.now) (g.I.Source.left c.loop-bytes.input) c.loop-bytes.bytes.items c.args.limit was.taken over, (c.loop-bytes.bytes.items, was.taken, inr (omega (arith, over, was.most))), was.count)
