use Rattle.std.proofs.Common.{◌≡◌, ◌++◌}
use Rattle.report.specs.Exports.{export_text}
use Rattle.answer.specs.Internal.Stages.{bytes_in}
use Rattle.compile_file.specs.Exports.{in_turn}
use Rattle.answer.proofs.meaning.add_all.Given as goal

abbrev pub invariant-loop-k : goal.invariant-loop-k
invariant-loop-k l = l.text ≡ l.fn.text ++ in_turn (λ k. export_text l.good k (bytes_in l.good l.exports k)) l.k
