use Rattle.check_scopes.proofs.AgentRows.{agents_alike, scopes_have_stages, tests_in_order}
use Rattle.check_scopes.proofs.Alike.{meets_alike, waits_alike, lets_alike, expands_alike}
use Rattle.check_scopes.proofs.laws.scope_laws.Goals as goal

pub returns-clause-meets : goal.returns-clause-meets
returns-clause-meets c = meets_alike

pub returns-clause-waits : goal.returns-clause-waits
returns-clause-waits c = waits_alike

pub returns-clause-lets : goal.returns-clause-lets
returns-clause-lets c = lets_alike

pub returns-clause-expands : goal.returns-clause-expands
returns-clause-expands c = expands_alike

pub returns-clause-agents : goal.returns-clause-agents
returns-clause-agents c = agents_alike

pub returns-clause-stages : goal.returns-clause-stages
returns-clause-stages c = scopes_have_stages

pub returns-clause-tests : goal.returns-clause-tests
returns-clause-tests c = tests_in_order
