use Rattle.std.proofs.Common.{ap, sym, ◌∙◌}
use Rattle.std.proofs.lemmas.Bool.{false≢true}
use Rattle.std.proofs.lemmas.Option.{get_or_from_slice_get}
use Rattle.check_state.proofs.Judged.{judged}
use Rattle.check_state.proofs.state_hazard_at.state_hazard_at.Goals as goal

pub returns-then-is_matched : goal.returns-then-is_matched
returns-then-is_matched c = λ a at.
    let told = c.is_matched.ensures in
    let J = judged c.args.view.now c.args.accesses.now c.args.j a _ c.args.found c.is_matched.result (get_or_from_slice_get c.args.accesses.now c.args.j a _ at) (c.requires.found a at) c.in_default.ensures.none c.in_default-missed_owner.ensures.none (record { release = told.release; acquire = told.acquire; other = told.other }) in
    record { layout = J.layout; owner = J.owner; match = J.match.0 c.if-is_matched.true }

pub returns-else-is_matched : goal.returns-else-is_matched
returns-else-is_matched c = λ a at.
    let told = c.is_matched.ensures in
    let e = get_or_from_slice_get c.args.accesses.now c.args.j a _ at in
    let J = judged c.args.view.now c.args.accesses.now c.args.j a _ c.args.found c.is_matched.result e (c.requires.found a at) c.in_default.ensures.none c.in_default-missed_owner.ensures.none (record { release = told.release; acquire = told.acquire; other = told.other }) in
    (ap (λ z. z.node) e, J.layout, J.owner, λ m. false≢true (sym c.if-is_matched.false ∙ J.match.1 m))
