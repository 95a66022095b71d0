-- The commands, by their words and the options that they take.
use Rattle.std.specs.Prelude.{◌≡◌, ℕ, ◌≤◌, List, length, false, Option, Some, None, unwrap_or, option_and_then, codes, if◌then◌else◌}
use Rattle.clap.specs.Words.{Row, first_of}
use Rattle.frame.specs.Repeats.{first_repeat}
use Rattle.cli.specs.CommandWords.{word_of}
use Rattle.cli.specs.Forms.{form_of}
use Rattle.cli.specs.LineOptions.{line_options_in, is_none, word_in}
use Rattle.cli.specs.Options.{options_in}
use Rattle.cli.specs.Persist.{persist_in}
use Rattle.cli.specs.declared.option_name.OptionName.TheVariants.{Persist}
use Rattle.cli.specs.declared.command.Command.{Command}
use Rattle.cli.specs.declared.command.Command.TheVariants as commands
use Rattle.cli.specs.declared.command.FrameCommand.TheVariants as frames
use Rattle.cli.specs.declared.command.SubmissionCommand.TheVariants as submissions
use Rattle.cli.specs.declared.line_options.LineOptions.{LineOptions}
use Rattle.base.specs.declared.run_options.RunOptions.{RunOptions}
use Rattle.cli.specs.declared.word.Word.{Word}
use Rattle.cli.specs.declared.word.Word.TheVariants.{Cull, Place, Bound, Compile, Auto, Meaning, Migrate, Check, Gen, Run, Exec, Flight, Audit}

-- a command, where no option is left that it does not take
abbrev pub unless_more : LineOptions → Command → Option Command
unless_more rest command = if is_none rest then Some command else None

abbrev pub without_options : LineOptions → LineOptions
without_options given = record given { workers = None; tend = None }

abbrev pub without_json : LineOptions → LineOptions
without_json given = record given { json = false }

-- a frame with other queues, or what that saves
abbrev pub choosing : LineOptions → Option Command
choosing given = if given.cost then unless_more (record (without_json given) { cost = false }) (commands.Frame (frames.Cost (form_of given.json))) else unless_more given (commands.Frame frames.Auto)

-- the frame of a number, or its summary; 64 passes where none are asked for
abbrev pub generating : LineOptions → ℕ → Option Command
generating given number =
    let passes : ℕ = unwrap_or given.passes 64 in
    let rest : LineOptions = record given { number = None; passes = None; summary = false } in
    if given.summary then unless_more (without_options rest) (commands.Summary number passes (options_in given)) else unless_more rest (commands.Gen number passes)

-- frames with these persisting names, two of them together where no depth is asked for
abbrev pub flying : LineOptions → Option (List (List ℕ)) → Option Command
flying given persist =
    let rest : LineOptions = record (without_options given) { depth = None; persist = false } in
    option_and_then (λ names. unless_more rest (commands.Flight (options_in given) names (unwrap_or given.depth 2))) persist

abbrev pub command_of_word : Word → LineOptions → Option (List (List ℕ)) → Option Command
command_of_word Cull given persist = unless_more (without_json given) (commands.Frame (frames.Cull (form_of given.json)))
command_of_word Place given persist = unless_more (without_json given) (commands.Frame (frames.Place (form_of given.json)))
command_of_word Bound given persist = unless_more (without_json given) (commands.Frame (frames.Bound (form_of given.json)))
command_of_word Compile given persist = unless_more (record given { tight = false }) (commands.Frame (frames.Compile given.tight))
command_of_word Auto given persist = choosing given
command_of_word Meaning given persist = unless_more given (commands.Frame frames.Meaning)
command_of_word Migrate given persist = unless_more given (commands.Frame frames.Migrate)
command_of_word Check given persist = unless_more (without_json given) (commands.Submission (submissions.Check (form_of given.json)))
command_of_word Gen given persist = option_and_then (generating given) given.number
command_of_word Run given persist = unless_more (record (without_options given) { trace = false; tight = false }) (commands.Run (options_in given) given.trace given.tight)
command_of_word Exec given persist = unless_more (record (without_options given) { trace = false }) (commands.Exec (options_in given) given.trace)
command_of_word Flight given persist = flying given persist
command_of_word Audit given persist = unless_more given commands.Audit

-- a command's word, with the options of a line
abbrev pub command_with : List Row → List ℕ → Option Command
command_with rows text = option_and_then (λ word. option_and_then (λ given. command_of_word word given (persist_in (word_in Persist rows))) (line_options_in rows)) (word_of text)

-- by what `clap` found on a line
abbrev pub command_in : List Row → Option Command
command_in rows = option_and_then (command_with rows) (first_of (codes "command") rows)

-- BOUNDS

abbrev pub HasWorkers : RunOptions → Type 0
HasWorkers options = (1 ≤ options.workers) × (options.workers ≤ 16)

abbrev pub HasPasses : ℕ → Type 0
HasPasses passes = (1 ≤ passes) × (passes ≤ 256)

abbrev pub HasDepth : ℕ → Type 0
HasDepth depth = (1 ≤ depth) × (depth ≤ 8)

-- at most 16 names, all different
abbrev pub HasNames : List (List ℕ) → Type 0
HasNames names = (length names ≤ 16) × (first_repeat names ≡ None)

-- 1 to 16 workers, 1 to 256 passes, 1 to 8 frames together, few names
abbrev pub IsBounded : Command → Type 0
IsBounded (commands.Frame asked) = Unit {0}
IsBounded (commands.Submission asked) = Unit {0}
IsBounded (commands.Gen number passes) = HasPasses passes
IsBounded (commands.Run options trace tight) = HasWorkers options
IsBounded (commands.Exec options trace) = HasWorkers options
IsBounded (commands.Summary number passes options) = HasPasses passes × HasWorkers options
IsBounded (commands.Flight options persist depth) = HasWorkers options × HasNames persist × HasDepth depth
IsBounded commands.Audit = Unit {0}
