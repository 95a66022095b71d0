use Rattle.std.proofs.Common.{◌≡◌, false, sym, ◌∙◌, subst}
use Rattle.check_sync.proofs.Walks.{loads_synchronized}
use Rattle.check_sync.specs.Internal.Chains.{IsIn}
use Rattle.check_sync.specs.Internal.Places.{clashes_with_loads}
use Rattle.check_sync.proofs.listing.Listing.are_all_synchronized.Goals as goal

pub returns-else-clashes_with_loads : goal.returns-else-clashes_with_loads
returns-else-clashes_with_loads c = λ t i lt. loads_synchronized c.args.self.now.view c.args.self.now.accesses i c.args.j
    (subst (λ a. clashes_with_loads a.access.kind ≡ false) c.access.ensures.is (sym c.clashes_with_loads.ensures ∙ c.if-clashes_with_loads.false))
    (λ n. c.are_pieces_synchronized-else-clashes_with_loads.ensures t i lt (subst (λ l. IsIn l c.args.self.now.accesses i) (sym c.requires.links.no_loads.kind) n))
