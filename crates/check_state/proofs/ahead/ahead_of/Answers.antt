use Rattle.std.proofs.Common.{◌≡◌, ◌+◌, ◌-◌, length, arith}
use Rattle.std.proofs.lemmas.Option.{slice_get-get_or}
use Rattle.check_state.proofs.ahead.ahead_of.Goals as goal

pub loop-k-preserved : goal.loop-k-preserved
loop-k-preserved c =
    let before : length c.args.accesses.now - 1 - c.loop-k.k + 1 ≡ length c.args.accesses.now - c.loop-k.k = omega arith in
    let after : length c.args.accesses.now - (c.loop-k.k + 1) ≡ length c.args.accesses.now - 1 - c.loop-k.k = omega arith in
    rw after (c.add.ensures c.args.accesses.now (slice_get-get_or c.args.accesses.now (length c.args.accesses.now - 1 - c.loop-k.k) _ (omega arith)) (rw before c.loop-k.invariant))
