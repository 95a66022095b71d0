use Rattle.std.proofs.Common.{◌≡◌, ◌-◌, ℕ, [], suc, true, subst, arith}
use Rattle.std.specs.Prelude.{◌↔◌}
use Rattle.device_drive.proofs.Drawing.{over_if}
use Rattle.device_drive.proofs.tending.is_over.Goals as goal
use Rattle.device_drive.specs.Internal.Keepers.{to_come}

pub returns : goal.returns
returns c =
    let k = c.args.keeper.now in
    let one : suc (c.args.left - 1) ≡ c.args.left = omega (arith, c.if-left-eq0.false) in
    subst (λ (left : ℕ). (c.is_none.result ≡ true) ↔ ([] ≡ to_come k left)) one (over_if c.is_none.result c.next.result k c.next.new.self (c.args.left - 1) c.is_none.ensures c.next.ensures.some c.next.ensures.none)
