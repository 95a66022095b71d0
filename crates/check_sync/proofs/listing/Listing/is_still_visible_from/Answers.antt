use Rattle.std.proofs.Common.{IfSome, subst}
use Rattle.std.proofs.lemmas.Bool.{false≢true}
use Rattle.check_sync.specs.Internal.Passings.{InvisibleFrom}
use Rattle.check_sync.proofs.Passes.{invisible_on}
use Rattle.check_sync.proofs.listing.Listing.is_still_visible_from.Goals as goal

pub returns-in-Some : goal.returns-in-Some
returns-in-Some c =
    let known : InvisibleFrom c.args.self.now.view c.in-Some.d c.args.b = subst (λ o. IfSome o (λ d. InvisibleFrom c.args.self.now.view d c.args.b)) c.in-Some.is c.requires.invisible in
    (λ e. absurd (false≢true e), λ h. absurd (invisible_on c.args.self.now.view c.in-Some.d c.args.x c.args.b known.never (c.happens_before.ensures.0 c.if-happens_before.true) h))
