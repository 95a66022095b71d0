use Rattle.std.proofs.Common.{◌++◌, ◌∙◌, ap₂, subst, sym}
use Rattle.frame.specs.Numbered.{numbered}
use Rattle.compile_groups.proofs.Growing.{commands-known}
use Rattle.compile_groups.proofs.commands.commands_of.Goals as goal
use Rattle.compile_groups.specs.Internal.Known.{AreKnown}
use Rattle.compile_groups.specs.Commands.{export_commands}

pub returns-clause-commands : goal.returns-clause-commands
returns-clause-commands c = c.in_ok-push_exports.ensures ∙ ap₂ (λ x y. x ++ export_commands (numbered c.args.frame.now) 0 y) c.in_ok-list.ensures c.exports-exports.ensures.exports

pub returns-clause-known : goal.returns-clause-known
returns-clause-known c = subst (AreKnown (numbered c.args.frame.now)) (sym (c.in_ok-push_exports.ensures ∙ ap₂ (λ x y. x ++ export_commands (numbered c.args.frame.now) 0 y) c.in_ok-list.ensures c.exports-exports.ensures.exports)) (commands-known (numbered c.args.frame.now) c.args.kept.now c.exports-exports.ensures.good)
