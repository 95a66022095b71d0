use Rattle.std.proofs.Common.{◌≡◌, ◌↔◌, true, option_map, Option, sym, subst}
use Rattle.vk.specs.declared.stages.Stages.{Stages}
use Rattle.check_table.specs.Joined.{EnteredFrom}
use Rattle.check_table.specs.Tables.{IsMade}
use Rattle.check_table.proofs.Told.{up_to_in}
use Rattle.check_table.proofs.table.OrderTable.is_entered_from.Goals as goal

pub returns-in-Some : goal.returns-in-Some
returns-in-Some c = λ W O M. subst (λ (o : Option Stages). (c.lets_in.result ≡ true) ↔ EnteredFrom W c.args.x c.args.m (option_map (λ s. s.0) o)) (sym c.in-Some.is)
    (c.lets_in.ensures W O (subst (λ (o : Option Stages). IsMade W c.args.m (option_map (λ s. s.0) o)) c.in-Some.is M))

pub returns-in-None : goal.returns-in-None
returns-in-None c = λ W O M. subst (λ (o : Option Stages). (c.is_up_to.result ≡ true) ↔ EnteredFrom W c.args.x c.args.m (option_map (λ s. s.0) o)) (sym c.in-None.is)
    (up_to_in W c.args.self.now c.requires.filled O c.is_up_to.result c.args.x c.args.m (c.is_up_to.ensures W O))
