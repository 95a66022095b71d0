use Rattle.std.proofs.Common.{ℕ, ◌/◌, ◌<◌, List, length, slice_get, Option, sym, subst}
use Rattle.std.specs.Prelude.{IfSome}
use Rattle.flight.proofs.Read.{export_inside, export_small}
use Rattle.flight.specs.Flights.{ArePersisted, window_at}
use Rattle.frame.specs.Numbered.{numbered}
use Rattle.flight.proofs.windows.Windows.export.Goals as goal

pub export_place-requires-clause-small : goal.export_place-requires-clause-small
export_place-requires-clause-small c =
    let own = c.self.inside in
    let there : c.args.frame < length own.frames.now = subst (λ f. c.args.frame < length f.frames) (sym c.self.view_is) c.requires.there in
    let exports : IfSome (slice_get own.frames.now c.args.frame) (λ f. c.args.k < length (numbered f).exports) = subst (λ w. IfSome (slice_get w.frames c.args.frame) (λ f. c.args.k < length (numbered f).exports)) (sym c.self.view_is) c.requires.exports in
    export_small own.frames.now own.persist.now own.depth c.self.invariant c.args.frame c.args.k there exports

pub returns-clause-within : goal.returns-clause-within
returns-clause-within c =
    let own = c.self.inside in
    let there : c.args.frame < length own.frames.now = subst (λ f. c.args.frame < length f.frames) (sym c.self.view_is) c.requires.there in
    let exports : IfSome (slice_get own.frames.now c.args.frame) (λ f. c.args.k < length (numbered f).exports) = subst (λ w. IfSome (slice_get w.frames c.args.frame) (λ f. c.args.k < length (numbered f).exports)) (sym c.self.view_is) c.requires.exports in
    subst (λ w. (persisted : List (Option (List ℕ))) → ArePersisted w.frames w.persist persisted → c.export_place.result < length (numbered (window_at w.frames w.persist w.depth persisted (c.args.frame / w.depth))).exports) c.self.view_is
    (λ persisted H. subst (λ n. n < length (numbered (window_at own.frames.now own.persist.now own.depth persisted (c.args.frame / own.depth))).exports) (sym c.export_place.ensures)
    (export_inside own.frames.now own.persist.now own.depth c.self.invariant c.args.frame c.args.k there exports persisted H))
