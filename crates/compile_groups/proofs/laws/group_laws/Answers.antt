use Rattle.compile_groups.proofs.Assembled.{is_grouped, is_known, is_small}
use Rattle.compile_groups.proofs.Growing.{commands-known}
use Rattle.compile_groups.proofs.laws.group_laws.Goals as goal
use Rattle.compile_groups.specs.Commands.{commands}

pub returns-clause-grouped : goal.returns-clause-grouped
returns-clause-grouped c = λ frame kept. is_grouped frame (commands frame kept)

pub returns-clause-known : goal.returns-clause-known
returns-clause-known c = λ frame kept good. is_known frame (commands frame kept) (commands-known frame kept good)

pub returns-clause-small : goal.returns-clause-small
returns-clause-small c = λ frame kept good. is_small frame (commands frame kept) good (commands-known frame kept good).few
