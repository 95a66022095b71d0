use Rattle.law_narrow.proofs.Scopes.{scopes_alike}
use Rattle.law_narrow.proofs.Both.{synchronized_both, first_both}
use Rattle.law_narrow.proofs.laws.narrow_laws.Goals as goal
use Rattle.program.specs.declared.rule.Rule.TheVariants as rules

pub returns-clause-scopes : goal.returns-clause-scopes
returns-clause-scopes c = λ program none. scopes_alike program (c.view_law.ensures program none) (c.rule_laws.ensures.entries program none rules.Supported) (c.rule_laws.ensures.entries program none rules.OnQueue)

pub returns-clause-synchronized : goal.returns-clause-synchronized
returns-clause-synchronized c = λ program none. synchronized_both program (scopes_alike program (c.view_law.ensures program none) (c.rule_laws.ensures.entries program none rules.Supported) (c.rule_laws.ensures.entries program none rules.OnQueue)) (c.view_law.ensures program none)

pub returns-clause-first : goal.returns-clause-first
returns-clause-first c = λ program none. first_both program (scopes_alike program (c.view_law.ensures program none) (c.rule_laws.ensures.entries program none rules.Supported) (c.rule_laws.ensures.entries program none rules.OnQueue)) (c.view_law.ensures program none)
