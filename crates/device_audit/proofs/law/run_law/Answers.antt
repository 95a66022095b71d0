use Rattle.std.proofs.Common.{ℕ, length, sym, subst}
use Rattle.device_audit.proofs.Histories.{histories_are_read}
use Rattle.device_audit.proofs.Tended.{tended_are_read}
use Rattle.device_audit.proofs.law.run_law.Goals as goal
use Rattle.device_model.proofs.Coming.{left_is}
use Rattle.device_model.specs.Coming.{left_by, AreEnabled}
use Rattle.device_model.specs.Laws.{AllDone}
use Rattle.check_access.specs.Views.{view_of}

pub returns-clause-run : goal.returns-clause-run
returns-clause-run c d zeros came complete = record {
  enabled = subst (λ (fill : ℕ). AreEnabled d.program fill d.history (length d.history)) zeros came;
  complete = subst (λ (fill : ℕ). AllDone (view_of d.program) (left_by d.program fill d.history)) zeros (subst (AllDone (view_of d.program)) (sym (left_is d)) complete);
}

pub returns-clause-read : goal.returns-clause-read
returns-clause-read c = histories_are_read

pub returns-clause-tended : goal.returns-clause-tended
returns-clause-tended c = tended_are_read
