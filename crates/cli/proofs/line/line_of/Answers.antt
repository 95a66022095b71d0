use Rattle.std.proofs.Common.{Bor, ℕ, List, Err, map, string_bytes, subst}
use Rattle.base.proofs.Results.{if_ok}
use Rattle.cli.proofs.Matched.{line_read, line_refused}
use Rattle.cli.proofs.line.line_of.Goals as goal
use Rattle.cli.specs.Lines.{Matches}
use Rattle.cli.specs.declared.matching.Unmatched.{Unmatched}

pub returns-in-Ok-clause-line : goal.returns-in-Ok-clause-line
returns-in-Ok-clause-line c =
    if_ok c.line_in.result (λ found reads. line_read (map string_bytes c.args.words.now) _ _ found c.in_ok-line.ensures (rw c.as_slice.ensures.value at c.in-Ok.ensures.0) (rw c.as_slice.ensures.value at c.in-Ok.ensures.1) reads) c.line_in.ensures

pub returns-in-Err-NoLine-clause-line : goal.returns-in-Err-NoLine-clause-line
returns-in-Err-NoLine-clause-line c =
    let refused = subst (λ (e : Unmatched). Matches (map (λ (word : Bor (List ℕ)). word.now) c.as_slice.result.now) (Err e)) c.in-Err-NoLine.field-0-is c.in-Err-NoLine.ensures in
    line_refused (map string_bytes c.args.words.now) _ c.in_ok-line.ensures (rw c.as_slice.ensures.value at refused)
