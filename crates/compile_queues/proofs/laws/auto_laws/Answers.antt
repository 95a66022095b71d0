use Rattle.compile_queues.proofs.Frames.{frame_still_good, numbered_on}
use Rattle.compile_queues.proofs.Requeued.{same_culled, same_meaning}
use Rattle.compile_queues.proofs.laws.auto_laws.Goals as goal
use Rattle.frame.proofs.Necessary.{good}
use Rattle.frame.proofs.Small.{none_broken}

pub returns-clause-meaning : goal.returns-clause-meaning
returns-clause-meaning c = same_meaning

pub returns-clause-culled : goal.returns-clause-culled
returns-clause-culled c = same_culled

pub returns-clause-numbers : goal.returns-clause-numbers
returns-clause-numbers c = numbered_on

pub returns-clause-good : goal.returns-clause-good
returns-clause-good c = λ frame qs none below serve. frame_still_good frame qs none (good frame (none_broken frame none)) below serve
