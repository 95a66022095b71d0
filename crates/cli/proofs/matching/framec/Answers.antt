use Rattle.std.proofs.Common.{ap, ap₂, ◌∙◌, fold}
use Rattle.clap.specs.Words.{with_rule}
use Rattle.cli.proofs.matching.framec.Goals as goal
use Rattle.cli.specs.Lines.{with_option}
use Rattle.cli.specs.OptionNames.{all_names}

pub returns : goal.returns
returns c =
    let worded = c.in_ok-worded.ensures.shape c.word.ensures.own ∙ ap₂ with_rule c.bare.ensures c.word.ensures.rule in
    let opted = c.in_ok-opted.ensures ∙ ap (λ app. fold with_option app all_names) worded in
    c.in_ok-command.ensures.shape c.files.ensures.own ∙ ap₂ with_rule opted c.files.ensures.rule
