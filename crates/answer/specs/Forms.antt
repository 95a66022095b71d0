-- In which form a command answers.
use Rattle.cli.specs.declared.command.Command.{Command}
use Rattle.cli.specs.declared.command.Command.TheVariants as reads
use Rattle.cli.specs.declared.command.FrameCommand.{FrameCommand}
use Rattle.cli.specs.declared.command.FrameCommand.TheVariants.{Cull, Place, Bound, Compile, Auto, Cost, Meaning, Migrate}
use Rattle.cli.specs.declared.command.SubmissionCommand.{SubmissionCommand}
use Rattle.cli.specs.declared.command.SubmissionCommand.TheVariants.{Check}
use Rattle.cli.specs.declared.form.Form.{Form}
use Rattle.cli.specs.declared.form.Form.TheVariants.{Line}

abbrev pub frame_form : FrameCommand → Form
frame_form (Cull form) = form
frame_form (Place form) = form
frame_form (Bound form) = form
frame_form (Compile tight) = Line
frame_form Auto = Line
frame_form (Cost form) = form
frame_form Meaning = Line
frame_form Migrate = Line

abbrev pub submission_form : SubmissionCommand → Form
submission_form (Check form) = form

abbrev pub form_of : Command → Form
form_of (reads.Frame asked) = frame_form asked
form_of (reads.Submission asked) = submission_form asked
form_of (reads.Gen number passes) = Line
form_of (reads.Run options trace tight) = Line
form_of (reads.Exec options trace) = Line
form_of (reads.Summary number passes options) = Line
form_of (reads.Flight options persist depth) = Line
form_of reads.Audit = Line
