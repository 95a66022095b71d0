use Rattle.std.proofs.Common.{◌≡◌, ◌+◌, ◌<◌, length, Some, sym, ◌∙◌, subst, arith}
use Rattle.std.proofs.lemmas.Bool.{false≢true}
use Rattle.check_sync.specs.Internal.Passings.{AvailableAt, VisibleFrom, NotPassedUntil}
use Rattle.check_sync.proofs.Passes.{until_more, until_seen, until_invisible, until_none, until_some}
use Rattle.check_sync.proofs.listing.Listing.flaw_in_passing.Goals as goal
use Rattle.check_sync.proofs.listing.Listing.flaw_in_passing.Goals.{then-is_available_at+else-is_still_visible_from, else-is_available_at}

pub is_still_visible_from-requires-clause-invisible : goal.is_still_visible_from-requires-clause-invisible
is_still_visible_from-requires-clause-invisible c = until_invisible c.loop-k.invisible_from c.args.self.now.view c.args.a c.args.b c.count-count.result c.loop-k.k c.loop-k.invariant

pub loop-k-preserved : goal.loop-k-preserved
loop-k-preserved c =
    let count : c.count-count.result ≡ length c.args.self.now.view.nodes = subst (λ v. c.count-count.result ≡ length v.view.nodes) c.self.view_is c.count-count.ensures.count in
    elim c.if-is_available_at.branch [
      | then-is_available_at+else-is_still_visible_from w ↦
          subst (λ f. NotPassedUntil f c.args.self.now.view c.args.a c.args.b c.count-count.result (c.loop-k.k + 1)) (sym w.invisible_from-is)
          (subst (λ x. NotPassedUntil (Some x) c.args.self.now.view c.args.a c.args.b c.count-count.result (c.loop-k.k + 1)) (sym c.up_from-x.ensures.is)
          (until_seen c.loop-k.invisible_from c.args.self.now.view c.args.a c.args.b c.count-count.result c.loop-k.k c.requires.b c.loop-k.invariant
          (subst (λ x. x < length c.args.self.now.view.nodes) c.up_from-x.ensures.is (subst (λ n. c.up_from-x.result < n) count c.up_from-x.ensures.below))
          (subst (λ x. AvailableAt c.args.self.now.view c.args.a x c.args.b) c.up_from-x.ensures.is (c.is_available_at.ensures.0 w.if-is_available_at.true))
          (λ h. false≢true (sym w.if-is_still_visible_from.false ∙ w.is_still_visible_from.ensures.1 (subst (λ x. VisibleFrom c.args.self.now.view x c.args.b) (sym c.up_from-x.ensures.is) h)))))
      | else-is_available_at w ↦
          subst (λ f. NotPassedUntil f c.args.self.now.view c.args.a c.args.b c.count-count.result (c.loop-k.k + 1)) (sym w.invisible_from-is)
          (until_more c.loop-k.invisible_from c.args.self.now.view c.args.a c.args.b c.count-count.result c.loop-k.k c.requires.b c.loop-k.invariant
          (λ h. false≢true (sym w.if-is_available_at.false ∙ c.is_available_at.ensures.1 (subst (λ x. AvailableAt c.args.self.now.view c.args.a x c.args.b) (sym c.up_from-x.ensures.is) h))))
    ]

pub returns-in-None : goal.returns-in-None
returns-in-None c =
    let count : c.count-count.result ≡ length c.args.self.now.view.nodes = subst (λ v. c.count-count.result ≡ length v.view.nodes) c.self.view_is c.count-count.ensures.count in
    until_none c.args.self.now.view c.args.a c.args.b c.count-count.result c.loop-k.k count (omega (arith, c.loop-k-test.false, c.loop-k.auto.k-end)) c.requires.a
    (subst (λ o. NotPassedUntil o c.args.self.now.view c.args.a c.args.b c.count-count.result c.loop-k.k) c.in-None.is c.loop-k.invariant)

pub returns-in-Some : goal.returns-in-Some
returns-in-Some c =
    let count : c.count-count.result ≡ length c.args.self.now.view.nodes = subst (λ v. c.count-count.result ≡ length v.view.nodes) c.self.view_is c.count-count.ensures.count in
    until_some c.args.self.now.view c.args.a c.args.b c.in-Some.field-0 c.count-count.result c.loop-k.k count (omega (arith, c.loop-k-test.false, c.loop-k.auto.k-end)) c.requires.a
    (subst (λ o. NotPassedUntil o c.args.self.now.view c.args.a c.args.b c.count-count.result c.loop-k.k) c.in-Some.is c.loop-k.invariant)
