use Rattle.std.proofs.Common.{◌≡◌, ◌++◌}
use Rattle.report.specs.Exports.{export_text}
use Rattle.device_run.specs.Runs.{read_by}
use Rattle.compile_file.specs.Exports.{in_turn}
use Rattle.top.proofs.readbacks.add_exports.Given as goal

abbrev pub invariant-loop-k : goal.invariant-loop-k
invariant-loop-k l = l.text ≡ l.fn.text ++ in_turn (λ k. export_text l.good k (read_by l.device k)) l.k
