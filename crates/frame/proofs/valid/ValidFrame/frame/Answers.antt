use Rattle.std.proofs.Common.{◌≡◌, None, subst}
use Rattle.frame.proofs.Small.{faultless}
use Rattle.frame.specs.FirstFault.{first_fault}
use Rattle.frame.proofs.valid.ValidFrame.frame.Goals as goal

pub returns-clause-good : goal.returns-clause-good
returns-clause-good c = subst (λ f. first_fault f ≡ None) c.self.view_is (faultless c.self.inside.frame c.self.invariant.0)
