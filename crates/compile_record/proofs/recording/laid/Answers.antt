use Rattle.frame.specs.Numbered.{numbered}
use Rattle.compile_heap.specs.Pairs.{has}
use Rattle.compile_record.proofs.Compiling.{offsets_count, laid}
use Rattle.compile_record.proofs.recording.laid.Goals as goal

pub program_of-requires-clause-placement : goal.program_of-requires-clause-placement
program_of-requires-clause-placement c = offsets_count c.args.groups.now c.sizes.result.now (has c.args.ordered.now) c.in_ok-placement.placement c.sizes.ensures.sizes c.in_ok-placement.ensures.least

pub returns : goal.returns
returns c = laid (numbered c.args.frame.now) c.args.groups.now (has c.args.ordered.now) c.sizes.result.now c.in_ok-placement.placement c.in_ok-program.program c.requires.ordered c.sizes.ensures.sizes c.in_ok-placement.ensures.least c.in_ok-program.ensures
