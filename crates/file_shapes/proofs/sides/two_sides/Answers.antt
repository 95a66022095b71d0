use Rattle.file_json.proofs.Walks.{fails_at}
use Rattle.file_shapes.proofs.Sizes.{short, long}
use Rattle.file_shapes.proofs.sides.two_sides.Goals as goal

pub returns-in-len1-clause-gives : goal.returns-in-len1-clause-gives
returns-in-len1-clause-gives c = fails_at c.refused-in-len1.result _ _ c.refused-in-len1.ensures (short _ c.args.entries.now c.in-len1.len_below)

pub returns-in-len3-up-clause-gives : goal.returns-in-len3-up-clause-gives
returns-in-len3-up-clause-gives c = fails_at c.refused-in-len3-up.result _ _ c.refused-in-len3-up.ensures (long _ c.args.entries.now c.in-len3-up.len_at_least)
