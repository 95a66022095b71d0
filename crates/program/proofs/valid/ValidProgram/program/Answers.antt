use Rattle.std.proofs.Common.{◌≡◌, None, subst}
use Rattle.program.proofs.Entering.{by_queue}
use Rattle.program.proofs.Obeying.{obeys, entries_obey}
use Rattle.program.specs.FirstFault.{first_broken}
use Rattle.program.proofs.valid.ValidProgram.program.Goals as goal

pub returns-clause-obeys : goal.returns-clause-obeys
returns-clause-obeys c = λ rule. obeys c.args.self.now (subst (λ program. first_broken program ≡ None) c.self.view_is c.self.invariant.0) rule

pub returns-clause-entries : goal.returns-clause-entries
returns-clause-entries c = λ rule. entries_obey c.args.self.now rule (obeys c.args.self.now (subst (λ program. first_broken program ≡ None) c.self.view_is c.self.invariant.0) rule)

pub returns-clause-numbered : goal.returns-clause-numbered
returns-clause-numbered c = by_queue c.args.self.now
