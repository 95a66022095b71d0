use Rattle.compile_record.proofs.block.push_prologue_of.Given as goal

abbrev pub ghost-prologue_of : goal.ghost-prologue_of
ghost-prologue_of g a = g.heap
