use Rattle.std.proofs.Common.{◌≡◌, ◌++◌, drop}
use Rattle.report_files.specs.Files.{file_at}
use Rattle.report_json.specs.Json.{entries}
use Rattle.report_files.proofs.object.add_objects.Given as goal

abbrev pub invariant-loop-k : goal.invariant-loop-k
invariant-loop-k l = l.text ++ entries file_at l.k (drop l.k l.files) ≡ l.fn.text ++ entries file_at 0 l.files
