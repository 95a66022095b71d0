use Rattle.std.proofs.Common.{◌≡◌, ◌≤◌, ℕ, drop, length}
use Rattle.frame_cull.specs.Internal.Counts.{times, count_of, refs_after, stack_after}
use Rattle.frame_cull.proofs.counts.lose.Given as goal

abbrev pub invariant-loop-maker : goal.invariant-loop-maker
invariant-loop-maker l =
    record {
      size : length l.refs ≡ length l.fn.refs;
      enough : (w : ℕ) → times w (drop l.maker-index l.row) ≤ count_of l.refs w;
      refs : refs_after (drop l.maker-index l.row) l.refs ≡ refs_after l.row l.fn.refs;
      stack : stack_after (drop l.maker-index l.row) l.refs l.stack ≡ stack_after l.row l.fn.refs l.fn.stack;
    }
