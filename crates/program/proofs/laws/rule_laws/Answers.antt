use Rattle.base.proofs.Absence.{map_none}
use Rattle.program.proofs.Few.{is_small}
use Rattle.program.proofs.Obeying.{entries_obey, obeys}
use Rattle.program.specs.FirstFault.{first_broken}
use Rattle.program.specs.Paths.{fault_of}
use Rattle.program.proofs.laws.rule_laws.Goals as goal

pub returns-clause-small : goal.returns-clause-small
returns-clause-small c = λ program none. is_small program (map_none fault_of (first_broken program) none)

pub returns-clause-obeys : goal.returns-clause-obeys
returns-clause-obeys c = λ program none rule. obeys program (map_none fault_of (first_broken program) none) rule

pub returns-clause-entries : goal.returns-clause-entries
returns-clause-entries c = λ program none rule. entries_obey program rule (obeys program (map_none fault_of (first_broken program) none) rule)
