use Rattle.base.proofs.Results.{if_ok}
use Rattle.top.proofs.AuditLemmas.{few_events, judges}
use Rattle.top.proofs.audit.judge.Goals as goal

pub verdict_answer-requires-clause-few : goal.verdict_answer-requires-clause-few
verdict_answer-requires-clause-few g c = few_events c.args.program.now.program c.args.events.now c.in_ok-verdict.verdict c.requires.few c.in_ok-verdict.ensures.says

pub returns : goal.returns
returns g c = record {
  judges =
      let verdict = c.in_ok-verdict.verdict in
      if_ok c.verdict_answer.result (λ answer is. judges c.args.program.now.program c.args.events.now verdict answer c.requires.sound c.in_ok-verdict.ensures.says c.in_ok-verdict.ensures.apart c.in_ok-verdict.ensures.run is) c.verdict_answer.ensures.verdict;
}
