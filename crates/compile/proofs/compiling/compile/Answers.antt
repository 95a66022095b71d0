use Rattle.std.proofs.Common.{sym, subst}
use Rattle.compile.proofs.Proved.{proved_right}
use Rattle.compile.proofs.compiling.compile.Goals as goal
use Rattle.frame.specs.Numbered.{numbered}
use Rattle.law_meaning.specs.DeclaredLaws.{HasDeclaredOrder}
use Rattle.compile_record.specs.Recorded.{IsCompiled}
use Rattle.program.specs.declared.program.Program.{Program}

pub proved_sound-requires-clause-faultless : goal.proved_sound-requires-clause-faultless
proved_sound-requires-clause-faultless c = (c.right_for.ensures.right c.in_ok-program.field-0 c.in_ok-program.ensures.kept c.in_ok-program.ensures.compiled).faultless

pub proved_sound-requires-clause-sound : goal.proved_sound-requires-clause-sound
proved_sound-requires-clause-sound c = (c.right_for.ensures.right c.in_ok-program.field-0 c.in_ok-program.ensures.kept c.in_ok-program.ensures.compiled).sound

pub returns-clause-compiled : goal.returns-clause-compiled
returns-clause-compiled c =
    let made = c.in_ok-program.field-0 in
    subst (λ (program : Program). IsCompiled (numbered c.args.frame.now) (record made { program = program })) (sym c.in_ok-program-2.ensures) c.in_ok-program.ensures.compiled

pub returns-clause-faultless : goal.returns-clause-faultless
returns-clause-faultless c = (proved_right (numbered c.args.frame.now) c.in_ok-program-2.program.program c.in_ok-program.field-0.program c.in_ok-program-2.ensures (c.right_for.ensures.right c.in_ok-program.field-0 c.in_ok-program.ensures.kept c.in_ok-program.ensures.compiled)).faultless

pub returns-clause-sound : goal.returns-clause-sound
returns-clause-sound c = (proved_right (numbered c.args.frame.now) c.in_ok-program-2.program.program c.in_ok-program.field-0.program c.in_ok-program-2.ensures (c.right_for.ensures.right c.in_ok-program.field-0 c.in_ok-program.ensures.kept c.in_ok-program.ensures.compiled)).sound

pub returns-clause-means : goal.returns-clause-means
returns-clause-means c = (proved_right (numbered c.args.frame.now) c.in_ok-program-2.program.program c.in_ok-program.field-0.program c.in_ok-program-2.ensures (c.right_for.ensures.right c.in_ok-program.field-0 c.in_ok-program.ensures.kept c.in_ok-program.ensures.compiled)).means

pub returns-clause-readbacks : goal.returns-clause-readbacks
returns-clause-readbacks c = (proved_right (numbered c.args.frame.now) c.in_ok-program-2.program.program c.in_ok-program.field-0.program c.in_ok-program-2.ensures (c.right_for.ensures.right c.in_ok-program.field-0 c.in_ok-program.ensures.kept c.in_ok-program.ensures.compiled)).readbacks

pub returns-clause-in_order : goal.returns-clause-in_order
returns-clause-in_order c =
    let made = c.in_ok-program.field-0 in
    subst (λ (program : Program). HasDeclaredOrder (numbered c.args.frame.now) made.kept program) (sym c.in_ok-program-2.ensures) (c.right_for.ensures.in_order made c.in_ok-program.ensures.kept c.in_ok-program.ensures.compiled)
