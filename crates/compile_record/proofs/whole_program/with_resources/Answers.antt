use Rattle.std.proofs.Common.{◌∙◌, ap, arith}
use Rattle.frame.specs.Numbered.{numbered}
use Rattle.compile_heap.specs.Pairs.{has}
use Rattle.compile_record.proofs.Compiling.{program_is}
use Rattle.compile_record.proofs.Settings.{shapes_few, sharings_count, families_few}
use Rattle.compile_record.proofs.whole_program.with_resources.Goals as goal
use Rattle.compile_record.specs.Pieces.{memories}

pub pieces-requires-clause-few : goal.pieces-requires-clause-few
pieces-requires-clause-few c = omega (arith, shapes_few (numbered c.args.frame.now) c.args.groups.now c.requires.of c.requires.good)

pub pieces-requires-clause-sharings : goal.pieces-requires-clause-sharings
pieces-requires-clause-sharings c = sharings_count (numbered c.args.frame.now) c.args.groups.now c.requires.of

pub readbacks-requires-clause-few : goal.readbacks-requires-clause-few
readbacks-requires-clause-few c = omega (arith, shapes_few (numbered c.args.frame.now) c.args.groups.now c.requires.of c.requires.good)

pub queues_of-requires-clause-families : goal.queues_of-requires-clause-families
queues_of-requires-clause-families c = families_few (numbered c.args.frame.now) c.args.groups.now c.requires.of c.requires.good

pub returns : goal.returns
returns c =
    program_is (numbered c.args.frame.now) c.args.groups.now (has c.args.ordered.now) c.args.placement.now c.in_ok-memories.memories c.in_ok-pieces.pieces c.in_ok-queues.queues c.in_ok-readbacks.readbacks
    (c.in_ok-memories.ensures ∙ ap (memories (numbered c.args.frame.now) c.args.groups.now) c.heap.ensures)
    c.in_ok-pieces.ensures
    c.in_ok-queues.ensures
    c.in_ok-readbacks.ensures
