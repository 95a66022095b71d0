use Rattle.base_first.proofs.Steps.{opened}
use Rattle.base_first.proofs.walk.open_group.Goals as goal

pub returns-clause-walked : goal.returns-clause-walked
returns-clause-walked c = opened c.args.points.now c.args.size.queues c.args.size.channels c.requires.lined c.args.p c.args.size.width c.args.numbers.now c.copy_rows.new.numbers c.args.groups.now c.requires.p c.requires.width c.if-groups-q.false c.copy_rows.ensures.length c.copy_rows.ensures.copied c.requires.newest c.requires.walked
