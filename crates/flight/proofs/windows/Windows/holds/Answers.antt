use Rattle.std.proofs.Common.{◌≡◌, ℕ, ◌<◌, List, length, slice_get, is_some, Option, sym, subst}
use Rattle.std.specs.List.{list_any}
use Rattle.std.specs.Prelude.{IfSome}
use Rattle.flight.proofs.Read.{hold_inside}
use Rattle.flight.proofs.Units.{hold_there}
use Rattle.flight.specs.Exported.{has_name}
use Rattle.flight.specs.Flights.{ArePersisted, window_at, window_count}
use Rattle.frame.specs.Numbered.{numbered}
use Rattle.law_window.specs.InTurn.{frames_in}
use Rattle.flight.proofs.windows.Windows.holds.Goals as goal

pub returns-clause-within : goal.returns-clause-within
returns-clause-within c =
    let own = c.self.inside in
    let counted : c.args.w < window_count own.depth own.frames.now = subst (λ f. c.args.w < window_count f.depth f.frames) (sym c.self.view_is) c.requires.there in
    subst (λ f. (persisted : List (Option (List ℕ))) → ArePersisted f.frames f.persist persisted → IfSome c.persisted_export.result (λ place. place < length (numbered (window_at f.frames f.persist f.depth persisted c.args.w)).exports)) c.self.view_is
    (λ persisted H. hold_inside own.frames.now own.persist.now own.depth c.self.invariant c.args.w c.args.k counted c.persisted_export.result c.persisted_export.ensures persisted H)

pub returns-clause-there : goal.returns-clause-there
returns-clause-there c =
    let own = c.self.inside in
    subst (λ f. IfSome (slice_get f.persist c.args.k) (λ name. is_some c.persisted_export.result ≡ list_any (has_name name) (frames_in f.depth f.frames c.args.w))) c.self.view_is
    (hold_there own.frames.now own.persist.now own.depth c.args.w c.args.k c.persisted_export.result c.persisted_export.ensures)
