use Rattle.frame.proofs.Necessary.{good}
use Rattle.frame.proofs.valid.validate_frame.Goals as goal

pub invariant_of-result : goal.invariant_of-result
invariant_of-result c =
    let none = rw c.in-Ok-Ok.field-0-is at c.in-Ok-Ok.ensures.none in
    (none, rw c.in-Ok-Ok.field-0-is at c.in-Ok-Ok.ensures.resolved, good c.args.frame none)
