use Rattle.std.proofs.Common.{◌≡◌, ◌↔◌, true, option_map, Option, sym, subst}
use Rattle.vk.specs.declared.stages.Stages.{Stages}
use Rattle.check_table.specs.Joined.{InOrder}
use Rattle.check_table.specs.Tables.{IsMade}
use Rattle.check_table.proofs.Told.{itself_in}
use Rattle.check_table.proofs.table.OrderTable.is_in_order.Goals as goal

pub returns-in-Some : goal.returns-in-Some
returns-in-Some c = λ W O M P. subst (λ (o : Option Stages). (c.leaves_in_order.result ≡ true) ↔ InOrder W c.args.n (option_map (λ s. s.0) o) c.args.m (option_map (λ s. s.0) c.args.other)) (sym c.in-Some.is)
    (c.leaves_in_order.ensures W O (subst (λ (o : Option Stages). IsMade W c.args.n (option_map (λ s. s.0) o)) c.in-Some.is M) P)

pub returns-in-None : goal.returns-in-None
returns-in-None c = λ W O M P. subst (λ (o : Option Stages). (c.is_entered_from.result ≡ true) ↔ InOrder W c.args.n (option_map (λ s. s.0) o) c.args.m (option_map (λ s. s.0) c.args.other)) (sym c.in-None.is)
    (itself_in W c.args.self.now c.requires.filled O c.is_entered_from.result c.args.n c.args.m (option_map (λ s. s.0) c.args.other) (c.is_entered_from.ensures W O P))
