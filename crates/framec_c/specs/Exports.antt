-- Which commands C can call.
use Rattle.std.specs.Prelude.{false}
use Rattle.cli.specs.declared.command.Command.{Command}
use Rattle.cli.specs.declared.command.Command.TheVariants.{Frame, Submission}
use Rattle.cli.specs.declared.command.FrameCommand.TheVariants as frames
use Rattle.cli.specs.declared.command.SubmissionCommand.TheVariants as submissions
use Rattle.cli.specs.declared.form.Form.TheVariants.{Line}
use Rattle.framec_c.specs.declared.export.Export.{Export}
use Rattle.framec_c.specs.declared.export.Export.TheVariants.{Check, Cull, Place, Bound, Compile, Auto, Meaning, Migrate}

-- as a command line has it, without options
abbrev pub command_of : Export → Command
command_of Check = Submission (submissions.Check Line)
command_of Cull = Frame (frames.Cull Line)
command_of Place = Frame (frames.Place Line)
command_of Bound = Frame (frames.Bound Line)
command_of Compile = Frame (frames.Compile false)
command_of Auto = Frame frames.Auto
command_of Meaning = Frame frames.Meaning
command_of Migrate = Frame frames.Migrate
