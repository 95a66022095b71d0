use Rattle.check_table.specs.Channels.{channel_at, outs_of}
use Rattle.check_table.proofs.Marks.{Marked}
use Rattle.check_table.proofs.words.outs_word.Given as goal

abbrev pub invariant-loop-c : goal.invariant-loop-c
invariant-loop-c l = Marked (λ d. outs_of (channel_at l.fn.channels d) l.fn.node l.fn.role) l.c l.word
