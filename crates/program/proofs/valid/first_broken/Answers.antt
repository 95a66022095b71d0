use Rattle.std.proofs.Common.{sym, ap, ◌∙◌}
use Rattle.std.specs.Option.{option_or}
use Rattle.program.specs.FirstFault.{rules_broken}
use Rattle.program.specs.Rules.{shapes_of}
use Rattle.program.proofs.valid.first_broken.Goals as goal

pub returns : goal.returns
returns c =
    let program = c.args.program.now in
    let shapes = c.deref.ensures ∙ c.in_ok-shapes.ensures in
    c.rules_broken.ensures ∙ ap (rules_broken program) shapes ∙ sym (ap (λ found. option_or found (rules_broken program (shapes_of program))) (sym c.limit_broken.ensures ∙ c.in_default.is))
