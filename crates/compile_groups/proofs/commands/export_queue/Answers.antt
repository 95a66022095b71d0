use Rattle.frame.specs.Numbered.{numbered}
use Rattle.compile_groups.proofs.Growing.{row-there, writer-there, on_writer, on_first}
use Rattle.compile_groups.proofs.commands.export_queue.Goals as goal

pub last_writer-requires : goal.last_writer-requires
last_writer-requires c = row-there (numbered c.args.frame.now) c.args.versions.now c.args.unit c.requires.versions c.requires.unit

pub queue_of-requires : goal.queue_of-requires
queue_of-requires c = writer-there (numbered c.args.frame.now) c.args.versions.now c.args.unit c.requires.versions c.requires.unit c.in-Some.pass c.in-Some.ensures

pub returns-in-Some : goal.returns-in-Some
returns-in-Some c = on_writer (numbered c.args.frame.now) c.args.versions.now c.args.unit c.requires.versions c.requires.unit c.in-Some.pass c.queue_of.result c.in-Some.ensures c.queue_of.ensures.queue

pub returns-in-None : goal.returns-in-None
returns-in-None c = on_first (numbered c.args.frame.now) c.args.versions.now c.args.unit c.requires.versions c.requires.unit c.in-None.ensures
