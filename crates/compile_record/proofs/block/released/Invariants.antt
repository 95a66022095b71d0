use Rattle.compile_record.proofs.block.released.Given as goal

abbrev pub ghost-prologue_of : goal.ghost-prologue_of
ghost-prologue_of g a = g.heap
