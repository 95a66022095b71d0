use Rattle.compile_record.proofs.whole_program.queues_of.Given as goal
use Rattle.compile_barriers.specs.Under.{heap_of}

abbrev pub ghost-steps : goal.ghost-steps
ghost-steps a = heap_of a.ordered.now a.placement.now
