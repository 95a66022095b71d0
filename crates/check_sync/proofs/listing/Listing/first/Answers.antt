use Rattle.std.proofs.Common.{◌≡◌, ◌<◌, length, ap, ◌∙◌, subst, arith}
use Rattle.check_sync.specs.Internal.Chains.{BothLinks}
use Rattle.check_sync.specs.Internal.Places.{PlacesSynchronizedBelow}
use Rattle.check_sync.proofs.Walks.{synchronized_more, synchronized_below, is_first}
use Rattle.check_sync.proofs.listing.Listing.first.Goals as goal

pub loop-j-init : goal.loop-j-init
loop-j-init c = record {
  synchronized = λ i j lt h. absurd (omega (arith, h));
  links = subst (λ n. BothLinks c.args.self.now.accesses n 0 c.in_ok-chains.chains) (c.piece_count.ensures ∙ ap (λ v. length v.view.pieces) c.self.view_is) (c.in_ok-chains.ensures c.args.self.now.accesses);
}

pub loop-j-preserved : goal.loop-j-preserved
loop-j-preserved c = record {
  synchronized = synchronized_more c.args.self.now.view c.args.self.now.accesses c.loop-j.j c.loop-j.invariant.synchronized c.in_default.ensures;
  links = c.in_ok-push.ensures;
}

pub returns-in-Some : goal.returns-in-Some
returns-in-Some c = is_first c.args.self.now.view c.args.self.now.accesses c.loop-j.j c.in-Some.sync_hazard (subst (λ v. c.loop-j.j < length v.accesses) c.self.view_is c.loop-j-test.true) c.loop-j.invariant.synchronized c.in-Some.ensures

pub returns : goal.returns
returns c =
    let done : c.loop-j.j ≡ length c.args.self.now.accesses = omega (arith, c.loop-j-test.false, c.loop-j.auto.j-end, ap (λ v. length v.accesses) c.self.view_is) in
    synchronized_below c.args.self.now.view c.args.self.now.accesses (length c.args.self.now.accesses) (subst (λ n. PlacesSynchronizedBelow c.args.self.now.view c.args.self.now.accesses n) done c.loop-j.invariant.synchronized)
