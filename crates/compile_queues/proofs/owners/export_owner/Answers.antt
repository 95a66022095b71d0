use Rattle.frame.specs.Numbered.{numbered}
use Rattle.compile_groups.proofs.Growing.{row-there}
use Rattle.compile_queues.proofs.Walking.{writer_is}
use Rattle.compile_queues.proofs.owners.export_owner.Goals as goal

pub last_writer-requires : goal.last_writer-requires
last_writer-requires c = row-there (numbered c.args.frame.now) c.args.versions.now c.args.unit c.requires.versions c.requires.unit

pub returns : goal.returns
returns c = writer_is (numbered c.args.frame.now) c.args.versions.now c.args.unit c.last_writer.result c.requires.versions c.requires.unit c.last_writer.ensures
