use Rattle.std.proofs.Common.{sym, ◌∙◌, arith, length, refl}
use Rattle.std.proofs.lemmas.Bool.{false≢true}
use Rattle.compile_timeline.proofs.Scripts.{all_fit, fits}
use Rattle.compile_timeline.proofs.script.is_script.Goals as goal

pub returns-then-not-is_fit : goal.returns-then-not-is_fit
returns-then-not-is_fit c = (λ e. absurd (false≢true e), λ K. sym c.if-not-is_fit.true ∙ c.is_fit.ensures ∙ fits c.args.script.now (length c.args.families.now) c.loop-at.at K)

pub returns : goal.returns
returns c = (λ e. all_fit c.args.script.now (length c.args.families.now) (λ i lt. c.loop-at.invariant i (omega arith)), λ K. refl)
