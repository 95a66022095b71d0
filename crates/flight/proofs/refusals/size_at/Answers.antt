use Rattle.std.proofs.Common.{◌≡◌, true, sym, subst}
use Rattle.std.specs.List.{All}
use Rattle.base.specs.Bounds.{size_allowed}
use Rattle.flight.proofs.refusals.size_at.Goals as goal

pub size_of-requires : goal.size_of-requires
size_of-requires c =
    let sizes : All (λ r. size_allowed r.shape ≡ true) c.args.good.now.resources = (c.frame_laws.ensures.declared c.args.good.now c.frame-frame.ensures.good).sizes in
    subst (All (λ r. size_allowed r.shape ≡ true)) (sym c.deref-in-Some.ensures) (subst (λ f. All (λ r. size_allowed r.shape ≡ true) f.resources) (sym c.frame-frame.ensures.frame) sizes)
