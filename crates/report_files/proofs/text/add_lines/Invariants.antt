use Rattle.std.proofs.Common.{◌≡◌, ◌++◌, take}
use Rattle.std.specs.List.{flat_map}
use Rattle.report_files.specs.Files.{file_line}
use Rattle.report_files.proofs.text.add_lines.Given as goal

abbrev pub invariant-loop-file : goal.invariant-loop-file
invariant-loop-file l = l.text ≡ l.fn.text ++ flat_map file_line (take l.file-index l.files)
