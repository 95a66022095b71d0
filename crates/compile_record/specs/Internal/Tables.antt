-- Steps looked up by marks.
use Rattle.std.specs.Prelude.{◌≡◌, ℕ, ◌+◌, List, drop, slice_index_or}
use Rattle.std.specs.List.{position_or_len}
use Rattle.compile_record.specs.Marks.{has_mark}
use Rattle.compile_record.specs.declared.mark.Mark.{Mark}
use Rattle.compile_record.specs.declared.mark.Mark.TheVariants.{Command, Prologue, Release}
use Rattle.compile_record.specs.declared.mark.Marked.{Marked}
use Rattle.compile_record.specs.declared.mark.Marked.TheVariants.{Does, Needs}
use Rattle.compile_record.specs.declared.table.Table.{Table}
use Rattle.compile_record.specs.declared.table.StepTable.{StepTable}
use Rattle.compile_timeline.specs.declared.step.Step.{Step}
use Rattle.compile_timeline.specs.declared.step.Step.TheVariants as steps

-- the step of a number; those that were never told have the same
abbrev pub step_at : Table → ℕ → ℕ
step_at table number = slice_index_or table.steps number table.none

abbrev pub step_for : StepTable → Mark → ℕ
step_for tables (Command c) = step_at tables.commands c
step_for tables (Prologue g) = step_at tables.prologues g
step_for tables (Release g) = step_at tables.releases g

-- with the step that is told for the mark
abbrev pub with_step : StepTable → Marked → Step
with_step tables (Does q of item) = steps.Item q item
with_step tables (Needs q of) = steps.Need q (step_for tables of)

-- of the items from step i on each is found by its mark
abbrev pub Finds : List Marked → ℕ → StepTable → Type 0
Finds script i tables = (mark : Mark) → step_for tables mark ≡ i + position_or_len (has_mark mark) (drop i script)
