use Rattle.std.proofs.Common.{◌≡◌, ◌∙◌, ◌↔◌, true, subst}
use Rattle.check_tighten.specs.Tight.{Passes}
use Rattle.check_tighten.proofs.Judging.{tried_as}
use Rattle.check_tighten.proofs.trial.tried.Goals as goal

pub returns : goal.returns
returns c =
    let candidate = c.program_with-candidate.ensures in
    let judged = c.in_ok-judged.judged in
    let trial = c.kept_or_undone.result in
    tried_as c.args.program judged.program trial.program judged.passes trial.changed c.args.place.queue c.args.place.batch c.args.place.at c.args.waits c.in_ok-old.old c.requires c.in_ok-old.ensures
    (c.in_ok-judged.ensures.0 ∙ candidate)
    (subst (λ p. (judged.passes ≡ true) ↔ Passes p) candidate c.in_ok-judged.ensures.1)
    c.kept_or_undone.ensures.kept c.kept_or_undone.ensures.undone
