use Rattle.std.proofs.Common.{◌≡◌, ◌==◌, ◌<◌, true, ap, subst, ◌∙◌, arith}
use Rattle.vk.specs.Sets.{meets}
use Rattle.device_nodes.proofs.needs.Needs.block_all.Goals as goal

pub returns : goal.returns
returns c = λ t V n B m lt on some.
    let at = B m lt in
    let within : at.0 < c.loop-i.i = omega (arith, at.1, c.loop-i-test.false, c.len-i-end.ensures) in
    subst (λ z. meets c.args.blocked.0 z ≡ true) at.3 (c.loop-i.invariant at.0 within (at.2 ∙ on) (ap (λ z. z == 0) at.3 ∙ some))
