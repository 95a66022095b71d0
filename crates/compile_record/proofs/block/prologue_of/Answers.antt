use Rattle.compile_record.proofs.PrologueFacts.{prologue_within, prologue_got, stands_got}
use Rattle.compile_record.proofs.block.prologue_of.Goals as goal

pub bounds-prologues-g : goal.bounds-prologues-g
bounds-prologues-g g c = prologue_within c.args.groups.now g.heap c.args.prologues.now c.args.g c.requires.0 c.requires.1

pub returns-clause-is : goal.returns-clause-is
returns-clause-is g c = prologue_got c.args.groups.now g.heap c.args.prologues.now c.args.g _ c.requires.0 c.requires.1

pub returns-clause-stands : goal.returns-clause-stands
returns-clause-stands g c = stands_got c.args.groups.now g.heap c.args.prologues.now c.args.g _ c.requires.0 c.requires.1
