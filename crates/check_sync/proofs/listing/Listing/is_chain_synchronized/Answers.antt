use Rattle.std.proofs.Common.{◌≡◌, ◌<◌, ◌-◌, get_or, true, sym, ap, ◌∙◌, subst, arith}
use Rattle.check_access.specs.AccessKinds.{changes}
use Rattle.check_sync.specs.Internal.Chains.{Latest}
use Rattle.check_sync.specs.Internal.Listings.{IsListing}
use Rattle.check_sync.specs.Internal.Places.{kind_of}
use Rattle.check_sync.proofs.Walks.{back, stop, latest_self}
use Rattle.check_sync.proofs.listing.Listing.is_chain_synchronized.Goals as goal

pub returns-then-changes : goal.returns-then-changes
returns-then-changes c same =
    let known : IsListing c.args.self.now = c.access.ensures.listing in
    let pos : 0 < c.back.m = omega (arith, c.back-test.true) in
    let change : changes (kind_of c.args.self.now.accesses (c.back.m - 1)) ≡ true = ap (λ a. changes a.access.kind) (sym c.access.ensures.is) ∙ sym c.changes.ensures ∙ c.if-changes.true in
    stop c.args.self.now.view c.args.self.now.accesses known.shaped known.ways known.listed c.args.j c.args.q c.requires.j c.requires.below c.requires.over c.requires.q c.args.chain.now.loads c.back.m pos c.back.invariant.low (c.back.invariant.its.its pos) c.back.invariant.seen change (c.is_synchronized.ensures c.if-not-is_synchronized.false)

pub back-preserved : goal.back-preserved
back-preserved c =
    let known : IsListing c.args.self.now = c.access.ensures.listing in
    let pos : 0 < c.back.m = omega (arith, c.back-test.true) in
    let less : c.back.m - 1 < c.args.j = omega (arith, pos, c.back.invariant.low) in
    let K : Latest c.args.chain.now.loads c.args.self.now.accesses (c.back.m - 1) c.args.q c.before-m.result =
    subst (λ n. Latest c.args.chain.now.loads c.args.self.now.accesses (c.back.m - 1) c.args.q n) (sym c.before-m.ensures)
    (subst (λ p. Latest c.args.chain.now.loads c.args.self.now.accesses (c.back.m - 1) p (get_or c.args.chain.now.prev.items (c.back.m - 1) 0)) (c.back.invariant.its.its pos) (c.requires.links.earlier (c.back.m - 1) less)) in
    record {
      low = omega (arith, K.low, c.back.invariant.low);
      its = latest_self c.args.chain.now.loads c.args.self.now.accesses (c.back.m - 1) c.args.q c.before-m.result K;
      seen = back c.args.self.now.view c.args.self.now.accesses known.shaped known.ways known.listed c.args.j c.args.q c.requires.j c.requires.below c.requires.over c.requires.q c.args.chain.now.loads c.back.m pos c.back.invariant.low c.back.invariant.seen (c.is_synchronized.ensures c.if-not-is_synchronized.false) c.before-m.result K;
    }
