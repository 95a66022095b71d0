use Rattle.std.proofs.Common.{◌*◌, length, get_or, get_or-take, ap, ◌∙◌}
use Rattle.base_first.proofs.Steps.{begun, none_newest, ended}
use Rattle.base_first.proofs.table.firsts_of.Goals as goal

pub walk_all-requires-clause-walked : goal.walk_all-requires-clause-walked
walk_all-requires-clause-walked c = begun c.args.points.now c.args.queues c.args.channels c.requires.lined c.in_ok-numbers.numbers.items c.in_ok-groups.groups.items c.in_ok-numbers.ensures.length c.in_ok-groups.ensures.length c.in_ok-numbers.ensures.numbers

pub walk_all-requires-clause-newest : goal.walk_all-requires-clause-newest
walk_all-requires-clause-newest c = none_newest c.args.points.now c.args.queues c.args.channels c.requires.lined c.in_ok-groups.groups.items

pub returns : goal.returns
returns c = ended c.args.points.now c.args.queues c.args.channels c.requires.lined c.walk_all.new.numbers.items c.walk_all.new.groups.items c.truncate.new.self.items (λ k lt. ap (λ l. get_or l k 0) c.truncate.ensures.items ∙ get_or-take (length c.args.points.now * (c.args.queues * c.args.channels)) c.walk_all.new.numbers.items k 0 lt) c.walk_all.ensures.walked
