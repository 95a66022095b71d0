use Rattle.std.proofs.Common.{IfOk, subst}
use Rattle.check_sync.specs.First.{FindsFirst}
use Rattle.check_sync.proofs.Whole.{all_decided}
use Rattle.check_sync.proofs.first.first_flaw.Goals as goal

pub returns-clause-first : goal.returns-clause-first
returns-clause-first c = subst (λ l. IfOk c.first.result (FindsFirst l.view l.accesses)) c.new.ensures c.first.ensures

pub returns-clause-synchronized : goal.returns-clause-synchronized
returns-clause-synchronized c = all_decided c.args.view.now c.args.accesses.now c.first.result c.requires.shaped (subst (λ l. IfOk c.first.result (FindsFirst l.view l.accesses)) c.new.ensures c.first.ensures)
