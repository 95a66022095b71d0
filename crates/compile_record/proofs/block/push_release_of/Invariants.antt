use Rattle.compile_record.proofs.block.push_release_of.Given as goal

abbrev pub ghost-released : goal.ghost-released
ghost-released g a = g.heap
