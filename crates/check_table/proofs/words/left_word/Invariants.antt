use Rattle.check_table.specs.Channels.{channel_at, left_by}
use Rattle.check_table.proofs.Marks.{Marked}
use Rattle.check_table.proofs.words.left_word.Given as goal

abbrev pub invariant-loop-c : goal.invariant-loop-c
invariant-loop-c l = Marked (λ d. left_by (channel_at l.fn.channels d) l.fn.stage.0) l.c l.word
