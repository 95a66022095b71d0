use Rattle.std.proofs.Common.{arith}
use Rattle.std.proofs.lemmas.List.{same_lists}
use Rattle.device.proofs.comparing.same_loads.Goals as goal

pub returns : goal.returns
returns c _ = same_lists c.args.a.now c.args.b.now (omega (arith, c.if-a-b.false)) (λ k d lt. c.loop-k.invariant k d (omega (arith, lt, c.loop-k-test.false)))
