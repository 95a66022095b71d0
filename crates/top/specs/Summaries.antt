-- A frame that was run, in numbers.
use Rattle.std.specs.Prelude.{ℕ, ◌-◌, List, length}
use Rattle.std.specs.List.{count_by, sum}
use Rattle.frame.specs.Numbered.{NumberedFrame}
use Rattle.compile_groups.specs.Groups.{grouping}
use Rattle.compile_groups.specs.Placed.{sizes}
use Rattle.compile_record.specs.declared.compiled.Compiled.{Compiled}
use Rattle.report.specs.Summaries.{summary_text}
use Rattle.program.specs.Entries.{entries_of}
use Rattle.program.specs.declared.program.Program.{Program}
use Rattle.compile_file.specs.Exports.{in_turn}

-- how many passes are kept and how many are not, how many nodes the program has, how many bytes the heap has and how many the
-- placed units would take one by one; and of the exports how many there are, how many bytes they have and what these come to
abbrev pub summary_with : NumberedFrame → Compiled Program → ℕ → ℕ → List ℕ
summary_with frame made bytes total =
    let count : ℕ = count_by (λ k. k) made.kept in
    summary_text count (length frame.passes - count) (length (entries_of made.program)) made.placement.heap (sum (sizes (grouping frame made.kept))) (length frame.exports) bytes total

-- export k has the bytes of k: all these together
abbrev pub summary_of : NumberedFrame → Compiled Program → (ℕ → List ℕ) → List ℕ
summary_of frame made bytes = let all : List ℕ = in_turn bytes (length frame.exports) in summary_with frame made (length all) (sum all)
