use Rattle.std.proofs.Common.{◌≡◌, ◌-◌, suc, true, sym, ap, ◌∙◌, subst, arith, rules}
use Rattle.std.specs.Prelude.{◌↔◌, MatchBool}
use Rattle.base.specs.declared.event.Event.{Event}
use Rattle.device_drive.proofs.Following.{decided}
use Rattle.device_drive.proofs.tending.takes.Goals as goal
use Rattle.device_drive.specs.Internal.Following.{Follows, Strays}
use Rattle.device_drive.specs.Internal.Keepers.{to_come}

pub returns-in-Some-clause-follows : goal.returns-in-Some-clause-follows
returns-in-Some-clause-follows c =
    let before = c.args.keeper.now in
    let after = c.next.new.self in
    let left = c.args.left.now in
    let m = c.in-Move.cache_move in
    let one : left ≡ suc (left - 1) = omega (arith, c.if-left-eq0.false) in
    let same : (c.eq.result ≡ true) ↔ (c.in-Some.next ≡ m) = search rules in
    subst (λ (event : Event). MatchBool c.eq.result (Follows event before left after (left - 1)) (Strays event before left)) (sym c.in-Move.is)
    (decided c.eq.result m c.in-Some.next before after left (left - 1) same (ap (to_come before) one ∙ c.in-Some.ensures.some (left - 1)))
