use Rattle.frame.proofs.Necessary.{good}
use Rattle.frame.proofs.Small.{none_broken}
use Rattle.frame.proofs.valid.faultless.Goals as goal

pub invariant_of-result : goal.invariant_of-result
invariant_of-result c =
    let none = none_broken c.args.frame c.requires in
    (none, c.in_ok-resolved.ensures, good c.args.frame none)
