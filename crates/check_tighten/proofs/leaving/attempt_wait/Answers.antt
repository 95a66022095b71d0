use Rattle.std.proofs.Common.{inl, ℕ, ◌<◌, refl, subst}
use Rattle.check_tighten.specs.Internal.Rounds.{StageNumberTried, FitTried}
use Rattle.check_tighten.proofs.Turning.{wait_kept}
use Rattle.check_tighten.proofs.Walks.{wait_done}
use Rattle.check_tighten.proofs.leaving.attempt_wait.Goals as goal

pub returns-clause-done : goal.returns-clause-done
returns-clause-done c = λ same.
    let is = c.in_ok-left.ensures.came.same c.if-left.false in
    let q = c.args.place.queue in
    let b = c.args.place.batch in
    let k = c.args.place.at in
    wait_done c.args.program q b k (c.in_ok-left.ensures.tried c.if-left.false)
    (subst (λ p. (i : ℕ) → i < 5 → StageNumberTried q b k p i) is (c.in_ok-trial.ensures.stages same))
    (subst (λ p. FitTried p q b k) is (c.in_ok-trial.ensures.fit same))

pub returns-then-left-clause-turn : goal.returns-then-left-clause-turn
returns-then-left-clause-turn c = inl (c.in_ok-left.ensures.left c.if-left.true, refl)

pub returns-clause-turn : goal.returns-clause-turn
returns-clause-turn c =
    wait_kept c.args.place.queue c.args.place.batch c.args.place.at c.args.program c.in_ok-left.left.program c.in_ok-trial.trial.program (c.in_ok-left.ensures.came.same c.if-left.false) (c.in_ok-left.ensures.tried c.if-left.false) c.in_ok-trial.ensures.turn
