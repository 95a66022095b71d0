-- What `audit` answers, as it is printed.
use Rattle.std.specs.Prelude.{ℕ, List, ◌++◌, codes}
use Rattle.std.specs.Fmt.{decimal}
use Rattle.report.specs.Hazards.{number_field}
use Rattle.report.specs.declared.audit.AuditLine.{AuditLine}
use Rattle.report.specs.declared.audit.AuditLine.TheVariants.{Run, Text, Limit, NotEnabled, Unfinished}

-- words and a number
abbrev pub told_number : List ℕ → ℕ → List ℕ
told_number words number = words ++ number_field number ++ codes "\n"

abbrev pub audit_text : AuditLine → List ℕ
audit_text (Run events) = codes "run " ++ decimal events ++ codes " events\n"
audit_text (Text line) = told_number (codes "fault A1") line
audit_text (Limit events) = told_number (codes "fault A2") events
audit_text (NotEnabled at) = told_number (codes "hazard A3") at
audit_text (Unfinished node) = told_number (codes "hazard A4") node
