use Rattle.file_program.proofs.entry.+push_behind.Given as goal

abbrev pub decreases-push_behind : goal.decreases-push_behind
decreases-push_behind l = l.more
