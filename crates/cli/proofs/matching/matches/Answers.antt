use Rattle.std.proofs.Common.{rules}
use Rattle.clap.specs.Words.{app_of}
use Rattle.cli.proofs.Matched.{line_faulty, line_matched}
use Rattle.cli.proofs.matching.matches.Goals as goal

pub returns-in-Ok-try_get_matches_from : goal.returns-in-Ok-try_get_matches_from
returns-in-Ok-try_get_matches_from c =
    line_matched (app_of c.in-Ok.command) _ c.in-Ok-try_get_matches_from.matches c.in-Ok.ensures c.in-Ok-try_get_matches_from.ensures.kinds c.in-Ok-try_get_matches_from.ensures.matches

pub returns : goal.returns
returns c = line_faulty (app_of c.in-Ok.command) _ c.in-Err.error c.in-Ok.ensures c.in-Err.ensures.kinds (λ e. search rules)
