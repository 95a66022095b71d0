use Rattle.std.proofs.Common.{sym, subst}
use Rattle.answer.proofs.AnswerLemmas.{migrated}
use Rattle.answer.proofs.auto.auto_frame.Goals as goal
use Rattle.answer.specs.Answers.{ChoosesQueues}

pub returns : goal.returns
returns c = record {
  frame =
      let chosen = c.in_ok-choice.choice.frame in
      let is = c.in_ok-choice.ensures in
      let written = migrated chosen c.in_ok-text.text c.end_line.new.self (rw c.frame.ensures.frame at c.in_ok-text.ensures.text) (rw c.frame.ensures.frame at c.in_ok-text.ensures.good) is.good c.in_ok-end_line.ensures.ok in
      subst (ChoosesQueues c.args.good.now) (sym c.done.ensures) (record {
        chosen = chosen;
        choice = is.choice;
        good = is.good;
        differs = is.numbers;
        means = is.meaning;
        culled = is.culled;
        given = c.in_ok-choice.choice.given;
        is_given = is.given;
        found = c.in_ok-choice.choice.found;
        is_found = is.found;
        less = is.less;
        whole = written.whole;
        again = written.again;
      });
}
