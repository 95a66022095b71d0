use Rattle.std.proofs.Common.{◌≡◌, below_more, length, sym, ◌∙◌, subst, arith}
use Rattle.std.proofs.lemmas.Bool.{false≢true}
use Rattle.check_access_order.specs.Order.{UpTo}
use Rattle.check_access_order.specs.Passing.{MadeVisibleBy}
use Rattle.check_sync.proofs.Passes.{none_visible}
use Rattle.check_sync.proofs.listing.Listing.is_visible_from.Goals as goal

pub loop-k-preserved : goal.loop-k-preserved
loop-k-preserved c = below_more _ _ c.loop-k.invariant (λ h. false≢true (sym c.if-is_visible_after.false ∙ c.is_visible_after.ensures.1 (subst (λ y. UpTo c.args.self.now.view c.args.x y × MadeVisibleBy c.args.self.now.view c.args.b.node c.args.b.access y) (sym c.down_from.ensures.is) h)))

pub returns : goal.returns
returns c =
    let done : c.loop-k.k ≡ c.count-count.result = omega (arith, c.loop-k-test.false, c.loop-k.auto.k-end) in
    let count : c.count-count.result ≡ length c.args.self.now.view.nodes = subst (λ v. c.count-count.result ≡ length v.view.nodes) c.self.view_is c.count-count.ensures.count in
    (λ e. absurd (false≢true e), λ h. absurd (none_visible c.args.self.now.view c.args.x c.args.b c.count-count.result c.loop-k.k count done c.requires.b c.loop-k.invariant h))
