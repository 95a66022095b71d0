-- Truth values.
use Rattle.std.specs.Prelude.{Bool}
use Rattle.file_json.specs.Parts.{Reader, or_at}
use Rattle.serde_json.specs.Data.{Data, boolean}
use Rattle.serde_json.specs.Find.{as_bool}

abbrev pub flag_at : Reader Bool
flag_at at d = or_at at (as_bool d)

abbrev pub flag_data : Bool → Data
flag_data flag = boolean flag
