use Rattle.std.proofs.Common.{◌∙◌, length, sym, arith}
use Rattle.std.proofs.lemmas.Bool.{eqb-false}
use Rattle.std.proofs.lemmas.Result.{on_ok_weaker}
use Rattle.compile_timeline.proofs.Writing.{ends_before}
use Rattle.compile_timeline.proofs.submission.Submission.begin.Goals as goal

pub returns-clause-same : goal.returns-clause-same
returns-clause-same c =
    let none = eqb-false (length c.args.self.now.items) 0 (sym c.is_empty.ensures ∙ c.if-is_empty.false) in
    on_ok_weaker c.end.result (ends_before c.args.self.now c.end.new.self (omega (arith, none))) c.end.ensures
