use Rattle.std.proofs.Common.{rules, ◌≡◌, length, subst, sym, ◌∙◌}
use Rattle.std.specs.Vec.{vec_len}
use Rattle.check_table.specs.Channels.{Covers}
use Rattle.check_table.specs.Joined.{joined}
use Rattle.check_table.proofs.Enough.{all_enough}
use Rattle.check_table.proofs.channels.channels_of.Goals as goal

pub returns-clause-covers : goal.returns-clause-covers
returns-clause-covers c =
    let counted : vec_len c.in_ok-staged.staged ≡ length c.in_ok-staged.staged.items = search rules in
    subst (λ n. Covers (joined c.args.edges.now c.args.joins.now) c.in_ok-all.all.items n) (sym (c.len-count.ensures ∙ counted))
    (all_enough (joined c.args.edges.now c.args.joins.now) c.args.stages.now c.requires.dependencies c.requires.stages c.in_ok-staged.staged.items c.in_ok-signals.signals.items c.in_ok-released.released.items c.in_ok-all.all.items
    c.in_ok-staged.ensures c.in_ok-signals.ensures c.in_ok-released.ensures c.in_ok-all.ensures)
