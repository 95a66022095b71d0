use Rattle.std.proofs.Common.{◌<◌, length, sym, ap, ◌∙◌, subst}
use Rattle.compile_groups.proofs.Numbers.{numbers_there, numbers_are}
use Rattle.compile_groups.proofs.groups.Groups.group.Goals as goal
use Rattle.compile_groups.specs.Needs.{numbers_in}
use Rattle.compile_groups.specs.declared.grouping.Grouping.{Grouping}

pub of-requires : goal.of-requires
of-requires c = numbers_there c.self.inside.grouping c.self.inside.by_group c.args.g c.self.invariant.by_group (subst (λ (G : Grouping). c.args.g < length G.groups) (sym c.self.view_is) c.requires)

pub returns : goal.returns
returns c =
    c.of.ensures
    ∙ numbers_are c.self.inside.grouping c.self.inside.by_group c.args.g c.self.invariant.by_group (subst (λ (G : Grouping). c.args.g < length G.groups) (sym c.self.view_is) c.requires)
    ∙ ap (λ (G : Grouping). numbers_in G c.args.g) c.self.view_is
