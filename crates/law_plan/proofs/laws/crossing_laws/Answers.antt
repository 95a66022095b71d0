use Rattle.law_plan.proofs.Crossing.{crossing}
use Rattle.law_plan.proofs.Soundness.{facts_sound}
use Rattle.law_plan.proofs.laws.crossing_laws.Goals as goal

pub returns-clause-crosses : goal.returns-clause-crosses
returns-clause-crosses c = λ F V N full places before after reach. crossing V full F N places before after reach

pub returns-clause-sound : goal.returns-clause-sound
returns-clause-sound c = λ F V N shaped facts order least. facts_sound F V N (c.before_laws.ensures.irreflexive V.nodes) (c.before_laws.ensures.asymmetric V.nodes) shaped facts order least
