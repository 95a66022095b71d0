use Rattle.base.proofs.Results.{if_ok}
use Rattle.check_table.specs.Joined.{joined}
use Rattle.check_table.proofs.Enough.{used_end}
use Rattle.check_table.proofs.channels.push_one.Goals as goal

pub returns-then-is_used : goal.returns-then-is_used
returns-then-is_used c = if_ok c.with_channel.result (λ new e old U. used_end (joined c.args.edges.now c.args.joins.now) c.args.way c.args.stages.now c.args.i old c.args.channels.items new.items U c.requires.one e) c.with_channel.ensures
