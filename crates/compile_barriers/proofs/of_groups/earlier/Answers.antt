use Rattle.std.proofs.Common.{ap, sym, ◌∙◌}
use Rattle.compile_barriers.proofs.Members.{earlier_apart, earlier_joined}
use Rattle.compile_barriers.specs.Prologues.{first}
use Rattle.compile_barriers.proofs.of_groups.earlier.Goals as goal

pub returns-else-unit_of : goal.returns-else-unit_of
returns-else-unit_of c = sym (earlier_apart c.args.groups.now c.args.g c.members.ensures.grouped c.requires c.if-g-eq0.false (λ e. c.if-unit_of.false (c.unit_of.ensures ∙ ap (λ A. (first A).unit) c.members-before.ensures.members ∙ e ∙ sym (ap (λ A. (first A).unit) c.members.ensures.members) ∙ sym c.unit_of-2.ensures)))

pub returns-then-unit_of : goal.returns-then-unit_of
returns-then-unit_of c =
    c.members-before.ensures.members
    ∙ earlier_joined c.args.groups.now c.args.g c.members.ensures.grouped c.requires c.if-g-eq0.false (sym (ap (λ A. (first A).unit) c.members-before.ensures.members) ∙ sym c.unit_of.ensures ∙ c.if-unit_of.true ∙ c.unit_of-2.ensures ∙ ap (λ A. (first A).unit) c.members.ensures.members)
