-- In which form a command answers.
use Rattle.std.specs.Prelude.{Bool, true, false}
use Rattle.cli.specs.declared.form.Form.{Form}
use Rattle.cli.specs.declared.form.Form.TheVariants.{Line, Json}

-- JSON where it is asked for
abbrev pub form_of : Bool → Form
form_of true = Json
form_of false = Line
