use Rattle.std.proofs.Common.{◌≡◌, ◌<◌, length, None, sym, subst}
use Rattle.flight.proofs.Counted.{there}
use Rattle.flight.proofs.Flies.{window_good}
use Rattle.flight.specs.Flights.{ArePersisted, window_count}
use Rattle.frame.specs.FirstFault.{first_fault}
use Rattle.flight.proofs.windows.Windows.frame.Goals as goal

pub faultless-requires : goal.faultless-requires
faultless-requires c =
    let own = c.self.inside in
    let frames = own.frames.now in
    let F = c.self.invariant in
    let counted : c.args.w < window_count own.depth frames = subst (λ f. c.args.w < window_count f.depth f.frames) (sym c.self.view_is) c.requires.there in
    let persisted : ArePersisted frames own.persist.now c.args.persisted.now = subst (λ f. ArePersisted f.frames f.persist c.args.persisted.now) (sym c.self.view_is) c.requires.persisted in
    subst (λ f. first_fault f ≡ None) (sym c.in_ok-frame.ensures) (window_good frames own.persist.now own.depth F c.args.w (there (length frames) own.depth c.args.w F.deep counted) counted c.args.persisted.now persisted)
