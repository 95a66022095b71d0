use Rattle.std.proofs.Common.{◌≡◌, ℕ, List, true, Some, refl, subst}
use Rattle.std.specs.Prelude.{◌↔◌, IsSome}
use Rattle.device_cache.specs.Draws.{may_draw}
use Rattle.device_drive.proofs.Drawing.{none_next}
use Rattle.device_drive.proofs.keeper.Keeper.next.Goals as goal

pub returns-clause-none : goal.returns-clause-none
returns-clause-none c =
    let k = c.args.self.now in
    none_next k (record { tender = Some c.next.new.self; agents = k.agents; sizes = k.sizes }) c.in-Some.tender c.next.new.self c.next.result c.in-Some.is refl refl refl
    (subst (λ (sizes : List ℕ). IsSome c.next.result ↔ (may_draw k.agents sizes ≡ true)) c.deref.ensures c.next.ensures.some)
