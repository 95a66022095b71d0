use Rattle.std.proofs.Common.{◌∙◌}
use Rattle.law_meaning.proofs.Agreement.{agree}
use Rattle.law_meaning.proofs.Compiled.{reads_compiled, one_each}
use Rattle.law_meaning.proofs.Exports.{all_long, kept_suffice}
use Rattle.law_meaning.proofs.laws.meaning_laws.Goals as goal

pub returns-clause-agree : goal.returns-clause-agree
returns-clause-agree c = λ program none sound. agree c.device_laws.ensures.runs c.round_laws.ensures.rounds c.round_laws.ensures.counts c.event_laws.ensures.opens program none sound

pub returns-clause-culled : goal.returns-clause-culled
returns-clause-culled c = λ frame kept good are. kept_suffice frame good (λ op whole. c.whole_leaves_nothing_old.ensures op whole) kept are

pub returns-clause-long : goal.returns-clause-long
returns-clause-long c = λ frame kept good are. all_long frame good (λ op whole. c.whole_leaves_nothing_old.ensures op whole) kept are

pub returns-clause-readbacks : goal.returns-clause-readbacks
returns-clause-readbacks c = λ frame made compiled. one_each frame made compiled

pub returns-clause-declared : goal.returns-clause-declared
returns-clause-declared c = λ frame made good are compiled order declared. reads_compiled (λ op whole. c.whole_leaves_nothing_old.ensures op whole) frame made good are (c.group_laws.ensures.grouped frame made.kept) (c.group_laws.ensures.known frame made.kept good) compiled order declared

pub returns-clause-means : goal.returns-clause-means
returns-clause-means c = λ frame made good are compiled none sound declared in_order order O k unit e.
    agree c.device_laws.ensures.runs c.round_laws.ensures.rounds c.round_laws.ensures.counts c.event_laws.ensures.opens made.program none sound order declared O in_order.order_is k
    ∙ reads_compiled (λ op whole. c.whole_leaves_nothing_old.ensures op whole) frame made good are (c.group_laws.ensures.grouped frame made.kept) (c.group_laws.ensures.known frame made.kept good) compiled declared in_order.declared k unit e
