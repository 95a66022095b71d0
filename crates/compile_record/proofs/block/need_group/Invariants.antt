use Rattle.compile_record.proofs.block.need_group.Given as goal

abbrev pub ghost-prologue_of : goal.ghost-prologue_of
ghost-prologue_of g a = g.heap
