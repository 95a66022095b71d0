use Rattle.law_tight.proofs.Bytes.{can_follow}
use Rattle.law_tight.proofs.Entries.{others_alike}
use Rattle.law_tight.proofs.Alike.{reads_alike, means_alike}
use Rattle.law_tight.proofs.DeclaredOrder.{declared_order}
use Rattle.law_tight.proofs.laws.wait_laws.Goals as goal

pub returns-clause-nodes : goal.returns-clause-nodes
returns-clause-nodes c = λ given program stands. others_alike given program stands

pub returns-clause-follows : goal.returns-clause-follows
returns-clause-follows c = λ given program stands order is. can_follow given program stands order is

pub returns-clause-reads : goal.returns-clause-reads
returns-clause-reads c = λ given program stands none sound. reads_alike c.meaning_laws.ensures.agree given program stands none sound

pub returns-clause-means : goal.returns-clause-means
returns-clause-means c = λ frame given program stands given_sound none sound means. means_alike c.meaning_laws.ensures.agree given program stands none sound frame given_sound means

pub returns-clause-in_order : goal.returns-clause-in_order
returns-clause-in_order c = λ frame kept given program stands. declared_order given program stands frame kept
