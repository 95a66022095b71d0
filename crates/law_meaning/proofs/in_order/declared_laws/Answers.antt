use Rattle.law_meaning.proofs.DeclaredCompiled.{compiled_order}
use Rattle.law_meaning.proofs.in_order.declared_laws.Goals as goal

pub returns-clause-ordered : goal.returns-clause-ordered
returns-clause-ordered c = compiled_order c.cut_laws.ensures.stand c.cut_laws.ensures.all c.cut_laws.ensures.order c.script_laws.ensures.in_turn c.script_laws.ensures.standing

pub returns-clause-means : goal.returns-clause-means
returns-clause-means c = λ frame made good are compiled none sound.
    let in_order = compiled_order c.cut_laws.ensures.stand c.cut_laws.ensures.all c.cut_laws.ensures.order c.script_laws.ensures.in_turn c.script_laws.ensures.standing frame made good compiled in
    c.meaning_laws.ensures.means frame made good are compiled none sound in_order.0 in_order.1
