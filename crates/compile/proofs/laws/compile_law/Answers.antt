use Rattle.compile.proofs.laws.compile_law.Goals as goal

pub returns-clause-right : goal.returns-clause-right
returns-clause-right c = λ frame made good are_kept compiled.
    let none = c.faultless_law.ensures frame made good compiled in
    let sound = c.sound_program_law.ensures frame made good are_kept compiled in
    record {
      faultless = none;
      sound = sound;
      readbacks = c.meaning_laws.ensures.readbacks frame made compiled;
      means = c.declared_laws.ensures.means frame made good are_kept compiled none sound;
    }

pub returns-clause-in_order : goal.returns-clause-in_order
returns-clause-in_order c = λ frame made good are_kept compiled. c.declared_laws.ensures.ordered frame made good compiled
