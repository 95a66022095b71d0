use Rattle.std.proofs.Common.{◌≡◌, ◌++◌}
use Rattle.device_run.specs.Runs.{read_by}
use Rattle.top.specs.Texts.{readbacks_text}
use Rattle.top.proofs.readbacks.add_readbacks.Given as goal

abbrev pub invariant-loop-k : goal.invariant-loop-k
invariant-loop-k l = l.text ≡ l.fn.text ++ readbacks_text (read_by l.device) l.k
