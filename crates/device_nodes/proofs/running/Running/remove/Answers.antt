use Rattle.std.proofs.Common.{◌∙◌, ◌-◌, ◌<◌, sym, ap, slice_set, arith}
use Rattle.device_nodes.proofs.Listing.{listed_at, removed}
use Rattle.device_nodes.proofs.Lists.{read_at}
use Rattle.device_nodes.proofs.running.Running.remove.Goals as goal

pub returns-then-place-self : goal.returns-then-place-self
returns-then-place-self c = λ nodes phase begun R.
    let at = listed_at nodes phase c.args.self.now R c.args.node begun in
    absurd (c.place_of-place.ensures.none at.0 (omega (arith, at.1, c.if-place-self.true)) at.2)

pub returns : goal.returns
returns c = λ nodes phase begun R.
    let old = c.args.self.now in
    let lt : c.place_of-place.result < old.count = c.if-place-self.false in
    let last = read_at old.nodes (old.count - 1) c.index-last.result.now 0 (omega (arith, lt, c.requires)) c.index-last.ensures in
    removed nodes phase old R c.args.node begun c.place_of-place.result lt (c.place_of-place.ensures.here lt) _
    (c.set.ensures ∙ ap (slice_set old.nodes c.place_of-place.result) (sym last)) (omega (arith, lt))
