use Rattle.std.proofs.Common.{◌≡◌, ◌==◌, ◌<◌, length, get_or, true, sym, ap, subst, ◌∙◌, ⊎_elim, arith}
use Rattle.std.proofs.lemmas.Bool.{cases_lt}
use Rattle.device_nodes.proofs.Lists.{read_at}
use Rattle.device_nodes.proofs.control.Control.some_might_come.Goals as goal
use Rattle.device_nodes.specs.Internal.Needs.{waits_at}
use Rattle.device_nodes.specs.Controls.{is_ready}
use Rattle.check_access.specs.Views.{queue_at}

pub loop-i-preserved : goal.loop-i-preserved
loop-i-preserved c = λ k lt on.
    let loose = c.self.inside.needs.loose in
    let now = c.args.self.now in
    let within : c.loop-i.i < length loose = omega (arith, c.loop-i-test.true, c.len-i-end.ensures) in
    let read = read_at loose c.loop-i.i c.index.result.now 0 within c.index.ensures in
    ⊎_elim
    (λ l. c.loop-i.invariant k l on)
    (λ g.
    let here : k ≡ c.loop-i.i = omega (arith, lt, g) in
    let is : get_or loose k 0 ≡ c.index.result.now = ap (λ z. get_or loose z 0) here ∙ read in
    ap (is_ready now) is ∙ c.might_come.ensures c.if-might_come.false (ap (queue_at now.view) (sym is) ∙ on))
    (cases_lt k c.loop-i.i)

pub returns : goal.returns
returns c = λ e m lt on loose.
    let i = c.self.inside in
    let now = c.args.self.now in
    let there : m < length i.view.nodes = subst (λ z. m < length z.view.nodes) (sym c.self.view_is) lt in
    let none : (waits_at i.view m == 0) ≡ true = subst (λ z. (waits_at z.view m == 0) ≡ true) (sym c.self.view_is) loose in
    let listed = c.self.invariant.needed.loose m there none in
    let below : listed.0 < c.loop-i.i = omega (arith, listed.1, c.loop-i-test.false, c.len-i-end.ensures) in
    ap (is_ready now) (sym listed.2) ∙ c.loop-i.invariant listed.0 below (ap (queue_at now.view) listed.2 ∙ on)
