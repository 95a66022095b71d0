-- The one JSON value that bytes are, as serde_json reads it.
use Rattle.std.specs.Prelude.{◌≡◌, ℕ, List, if◌then◌else◌, Option, Some, None, Result, Ok, Err}
use Rattle.std.specs.Str.{is_utf8}
use Rattle.serde_json.specs.Data.{Data}
use Rattle.serde_json.specs.Read.{read}
use Rattle.serde_json.specs.View.{view}
use Rattle.serde_json.specs.declared.value.Value.{Value}
use Rattle.file_json.specs.declared.json.JsonError.{JsonError}
use Rattle.file_json.specs.declared.json.JsonError.TheVariants as ends

abbrev pub json_of : List ℕ → Option Data
json_of bytes = if is_utf8 bytes then read bytes else None

-- what a function returned is this value, unless memory ran out
abbrev pub JsonGives : Result Value JsonError → Option Data → Type 0
JsonGives (Ok value) found = found ≡ Some (view value)
JsonGives (Err ends.NoMemory) found = Unit {0}
JsonGives (Err ends.NotJson) found = found ≡ None
