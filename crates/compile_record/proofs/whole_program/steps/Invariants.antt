use Rattle.compile_record.proofs.whole_program.steps.Given as goal

abbrev pub ghost-script : goal.ghost-script
ghost-script g a = g.heap
