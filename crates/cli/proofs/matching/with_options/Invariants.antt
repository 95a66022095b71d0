use Rattle.std.proofs.Common.{◌≡◌, drop, fold}
use Rattle.clap.specs.Words.{app_of}
use Rattle.cli.proofs.matching.with_options.Given as goal
use Rattle.cli.specs.Lines.{with_option}

abbrev pub invariant-loop-option : goal.invariant-loop-option
invariant-loop-option l = fold with_option (app_of l.command) (drop l.option-index l.options) ≡ fold with_option (app_of l.fn.command) l.options
