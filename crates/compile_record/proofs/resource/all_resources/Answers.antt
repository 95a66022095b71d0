use Rattle.std.proofs.Common.{arith}
use Rattle.compile_record.proofs.Counts.{assigned-few, assigned_more, resource_more}
use Rattle.compile_record.proofs.resource.all_resources.Goals as goal

pub assign-requires : goal.assign-requires
assign-requires c =
    let few = c.requires.few in
    let below = c.loop-r-test.true in
    assigned-few c.args.groups.now c.loop-r.r c.loop-r.assigned (omega (arith, few, below)) c.loop-r.invariant.assigned

pub loop-r-preserved : goal.loop-r-preserved
loop-r-preserved c = record {
  list = resource_more c.args.groups.now c.loop-r.r c.loop-r.assigned c.has_piece-has_piece.result c.has_memory-has_memory.result c.assign.result c.loop-r.list c.push.new.self c.loop-r.invariant.assigned c.has_piece-has_piece.ensures c.has_memory-has_memory.ensures c.assign.ensures.resource c.loop-r.invariant.list c.in_ok-push.ensures.ok;
  assigned = assigned_more c.args.groups.now c.loop-r.r c.loop-r.assigned c.assign.new.self c.has_piece-has_piece.result c.has_memory-has_memory.result c.loop-r.invariant.assigned c.has_piece-has_piece.ensures c.has_memory-has_memory.ensures c.assign.ensures.assigned;
}
