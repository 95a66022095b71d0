use Rattle.frame.specs.Numbered.{numbered}
use Rattle.frame_meaning.proofs.Exported.{exported}
use Rattle.frame_meaning.proofs.Marks.{meanings}
use Rattle.frame_meaning.proofs.pictures.meaning.Goals as goal

pub returns-clause-pictures : goal.returns-clause-pictures
returns-clause-pictures c = meanings (numbered c.args.frame.now) c.in_ok-stored.field-0 c.in_ok-all_bytes.field-0 c.in_ok-stored.ensures c.in_ok-all_bytes.ensures.count c.in_ok-all_bytes.ensures.bytes

pub returns-clause-exported : goal.returns-clause-exported
returns-clause-exported c = exported (numbered c.args.frame.now) c.all_bytes.ensures.good

pub returns-in_err-all_bytes-clause-exported : goal.returns-in_err-all_bytes-clause-exported
returns-in_err-all_bytes-clause-exported c = exported (numbered c.args.frame.now) c.all_bytes.ensures.good

pub returns-in_err-stored-clause-exported : goal.returns-in_err-stored-clause-exported
returns-in_err-stored-clause-exported c = exported (numbered c.args.frame.now) c.all_bytes.ensures.good
