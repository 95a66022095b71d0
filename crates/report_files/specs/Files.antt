-- What is printed of several files.
use Rattle.std.specs.Prelude.{ℕ, ◌-◌, List, [], ◌∷◌, ◌++◌, length, take, Option, Some, None, codes}
use Rattle.std.specs.List.{flat_map}
use Rattle.cli.specs.declared.form.Form.{Form}
use Rattle.cli.specs.declared.form.Form.TheVariants.{Line, Json}
use Rattle.report_files.specs.declared.file_report.FileReport.{FileReport}
use Rattle.report_json.specs.Json.{number, string, escaped, member, object, array, answer}

-- AS LINES

-- the answer, which is one line, with the name before it
abbrev pub line_of : List ℕ → Option (List ℕ) → List ℕ
line_of name None = []
line_of name (Some answer) = name ++ codes ": " ++ answer

abbrev pub file_line : FileReport → List ℕ
file_line file = line_of file.name file.answer

-- AS JSON

-- an answer is an object and a line feed
abbrev pub answer_members : Option (List ℕ) → List (List ℕ)
answer_members None = []
answer_members (Some text) = member (codes "answer") (take (length text - 1) text) ∷ []

abbrev pub object_of_file : FileReport → List ℕ
object_of_file file = object (member (codes "file") (string (flat_map escaped file.name))) (member (codes "status") (number file.status) ∷ answer_members file.answer)

abbrev pub file_at : ℕ → FileReport → List ℕ
file_at k file = object_of_file file

abbrev pub object_of_files : List FileReport → List ℕ
object_of_files files = answer (member (codes "files") (array file_at files)) []

-- EITHER

abbrev pub files_text : Form → List FileReport → List ℕ
files_text Line files = flat_map file_line files
files_text Json files = object_of_files files
