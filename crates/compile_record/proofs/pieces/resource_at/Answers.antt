use Rattle.std.proofs.Common.{arith, false}
use Rattle.compile_record.proofs.Counts.{resources_count, resource_there}
use Rattle.compile_record.proofs.pieces.resource_at.Goals as goal

pub bounds-resources-r : goal.bounds-resources-r
bounds-resources-r c =
    let count = resources_count c.args.groups.now c.args.resources.now c.requires.resources in
    let below = c.requires.r in
    omega (arith, count, below)

pub returns : goal.returns
returns c = resource_there c.args.groups.now c.args.resources.now c.args.r (record { has_piece = false; has_memory = false; piece = 0; memory = 0; place = 0 }) c.requires.resources c.requires.r
