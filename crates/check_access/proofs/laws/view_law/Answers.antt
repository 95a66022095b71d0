use Rattle.check_access.proofs.Viewing.{shaped}
use Rattle.check_access.proofs.laws.view_law.Goals as goal

pub returns : goal.returns
returns c = λ program none. shaped program (c.rule_laws.ensures.small program none) (c.rule_laws.ensures.entries program none)
