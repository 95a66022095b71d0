use Rattle.std.proofs.Common.{◌≡◌, ◌↔◌, true, option_map, Option, Some, sym, subst}
use Rattle.vk.specs.declared.stages.Stages.{Stages}
use Rattle.check_table.specs.Joined.{InOrder}
use Rattle.check_table.specs.Tables.{IsMade}
use Rattle.check_table.proofs.table.OrderTable.leaves_in_order.Goals as goal

pub returns-in-Some : goal.returns-in-Some
returns-in-Some c = λ W O M P. subst (λ (o : Option Stages). (c.leaves_before.result ≡ true) ↔ InOrder W c.args.n (Some c.args.stage.0) c.args.m (option_map (λ s. s.0) o)) (sym c.in-Some.is)
    (c.leaves_before.ensures W O M (subst (λ (o : Option Stages). IsMade W c.args.m (option_map (λ s. s.0) o)) c.in-Some.is P))

pub returns-in-None : goal.returns-in-None
returns-in-None c = λ W O M P. subst (λ (o : Option Stages). (c.leads_into.result ≡ true) ↔ InOrder W c.args.n (Some c.args.stage.0) c.args.m (option_map (λ s. s.0) o)) (sym c.in-None.is) (c.leads_into.ensures W O M tt)
