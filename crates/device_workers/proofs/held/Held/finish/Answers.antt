use Rattle.std.proofs.Common.{ℕ, take, sym, ap, ◌∙◌}
use Rattle.device_drive.specs.Tended.{tended_moves}
use Rattle.device_workers.proofs.Counting.{take_all}
use Rattle.device_workers.proofs.held.Held.finish.Goals as goal

pub returns-clause-moves : goal.returns-clause-moves
returns-clause-moves g c =
    let all = tended_moves g.T.Task.program g.T.Task.tend 256 in
    let made = c.args.tender.moves.amount in
    c.args.self.moved ∙ ap (λ (k : ℕ). take k all) (sym (c.audit-3.ensures.whole c.args.tender.whole)) ∙ take_all made all c.requires.moved
