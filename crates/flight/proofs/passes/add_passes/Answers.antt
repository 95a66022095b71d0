use Rattle.std.proofs.Common.{◌≡◌, true, sym, subst}
use Rattle.std.specs.List.{All}
use Rattle.base.specs.Bounds.{size_allowed}
use Rattle.flight.proofs.passes.add_passes.Goals as goal

pub add_both-requires-clause-sizes : goal.add_both-requires-clause-sizes
add_both-requires-clause-sizes c =
    let sizes : All (λ r. size_allowed r.shape ≡ true) c.args.good.now.resources = (c.frame_laws.ensures.declared c.args.good.now c.frame.ensures.good).sizes in
    subst (λ f. All (λ r. size_allowed r.shape ≡ true) f.resources) (sym c.frame.ensures.frame) sizes
