use Rattle.std.proofs.Common.{◌≡◌, length, subst, arith}
use Rattle.check_table.specs.Internal.Laying.{IsLaying}
use Rattle.check_table.specs.Joined.{joined}
use Rattle.check_table.proofs.laying.lay_all.Goals as goal

pub returns : goal.returns
returns c =
    let done : c.loop-k.k ≡ length c.args.order.now = omega (arith, c.loop-k-test.false, c.loop-k.auto.k-end) in
    subst (λ n. IsLaying (joined c.args.edges.now c.args.joins.now) c.args.order.now c.args.channels.now c.args.stages n c.loop-k.line) done c.loop-k.invariant
