-- Several files, one after another.
use Rattle.std.proofs.Common.{◌≡◌, ◌∙◌, ◌<◌, ◌+◌, ◌++◌, ℕ, List, [], ◌∷◌, length, map, take, get_or, sym, ap, ap₂, subst, inl, inr}
use Rattle.std.proofs.lemmas.List.{map-append, take_more}
use Rattle.std.specs.List.{AllByRecursion}
use Rattle.answer.specs.declared.answer.Answer.{Answer}
use Rattle.base.proofs.Lists.{all_append}
use Rattle.cli.specs.declared.command.Command.{Command}
use Rattle.report_files.specs.declared.file_report.FileReport.{FileReport}
use Rattle.top.specs.Files.{AreAnswered, IsAnswered}

abbrev name_of : FileReport → List ℕ
name_of file = file.name

pub one_more : (command : Command) (names : List (List ℕ)) (i : ℕ) (d : List ℕ) (files files' : List FileReport) (file : FileReport) → i < length names → file.name ≡ get_or names i d → IsAnswered command file → files' ≡ files ++ file ∷ [] → AreAnswered command (take i names) files → AreAnswered command (take (i + 1) names) files'
one_more command names i d files files' file lt named is grows before = record {
  named = ap (map name_of) grows ∙ (map-append name_of files (file ∷ []) ∙ (ap₂ (λ (ns : List (List ℕ)) (n : List ℕ). ns ++ n ∷ []) before.named named ∙ sym (take_more names i d lt)));
  answered = subst (AllByRecursion (IsAnswered command)) (sym grows) (all_append (IsAnswered command) files (file ∷ []) before.answered (is, tt));
}
