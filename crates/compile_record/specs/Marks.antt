-- From what is recorded by marks to steps: a need names the step at which the item with its mark stands.
use Rattle.std.specs.Prelude.{ℕ, List, ◌==◌, Bool, false, map}
use Rattle.std.specs.List.{position_or_len}
use Rattle.std.specs.Option.{option_map_or}
use Rattle.compile_record.specs.declared.mark.Mark.{Mark}
use Rattle.compile_record.specs.declared.mark.Mark.TheVariants as marks
use Rattle.compile_record.specs.declared.mark.Marked.{Marked}
use Rattle.compile_record.specs.declared.mark.Marked.TheVariants.{Does, Needs}
use Rattle.compile_timeline.specs.declared.step.Step.{Step}
use Rattle.compile_timeline.specs.declared.step.Step.TheVariants as steps

abbrev pub same : Mark → Mark → Bool
same (marks.Command c) (marks.Command d) = c == d
same (marks.Prologue g) (marks.Prologue h) = g == h
same (marks.Release g) (marks.Release h) = g == h
same mark other = false

abbrev pub has_mark : Mark → Marked → Bool
has_mark mark (Does q of item) = option_map_or (same mark) of false
has_mark mark (Needs q of) = false

abbrev pub step_of : List Marked → Mark → ℕ
step_of script mark = position_or_len (has_mark mark) script

-- with what the mark stands for in the whole list
abbrev pub unmarked : List Marked → Marked → Step
unmarked script (Does q of item) = steps.Item q item
unmarked script (Needs q of) = steps.Need q (step_of script of)

abbrev pub steps_of : List Marked → List Step
steps_of script = map (unmarked script) script
