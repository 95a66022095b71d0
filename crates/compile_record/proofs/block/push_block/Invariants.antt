use Rattle.compile_record.proofs.block.push_block.Given as goal

abbrev pub ghost-need_groups : goal.ghost-need_groups
ghost-need_groups g a = g.heap

abbrev pub ghost-push_prologues : goal.ghost-push_prologues
ghost-push_prologues g a = g.heap

abbrev pub ghost-push_releases : goal.ghost-push_releases
ghost-push_releases g a = g.heap
