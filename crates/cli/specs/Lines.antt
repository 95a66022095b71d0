-- The command line, as `clap` reads it.
use Rattle.std.specs.Prelude.{◌≡◌, true, List, [], ◌∷◌, fold, Option, Some, None, Result, Ok, Err, codes}
use Rattle.clap.specs.Words.{App, Rule, Text, Kinds, new_app, new_rule, with_rule, matches_of, rows_of, found_of, fault_of}
use Rattle.clap.specs.Simple.{on_top}
use Rattle.clap.specs.declared.builder.action.ArgAction.{ArgAction}
use Rattle.clap.specs.declared.builder.action.ArgAction.TheVariants.{Set, Append}
use Rattle.clap.specs.declared.parser.matches.ArgMatches.{ArgMatches}
use Rattle.cli.specs.Files.{line_in}
use Rattle.cli.specs.OptionNames.{action_of, all_names, name_of}
use Rattle.cli.specs.declared.line.Line.{Line}
use Rattle.cli.specs.declared.option_name.OptionName.{OptionName}
use Rattle.cli.specs.declared.matching.Unmatched.{Unmatched}
use Rattle.cli.specs.declared.matching.Unmatched.TheVariants.{NoLine, NoMemory}

-- one word that has to be there
abbrev pub word_rule : Rule
word_rule = record (new_rule (codes "command")) { required = true; action = Some Set }

-- any number of words behind it
abbrev pub files_rule : Rule
files_rule = record (new_rule (codes "file")) { action = Some Append }

-- `--name`, with one word behind it or alone
abbrev pub option_rule : Text → ArgAction → Rule
option_rule name action = record (new_rule name) { long = Some name; action = Some action }

abbrev pub with_option : App → OptionName → App
with_option app option = with_rule app (option_rule (name_of option) (action_of option))

-- neither `--help` nor `--version`
abbrev pub bare_app : App
bare_app = on_top (λ s. record s { disable_help_flag = true; disable_version_flag = true }) (new_app (codes "framec"))

-- the command's word, the options and the files
abbrev pub framec : App
framec = with_rule (fold with_option (with_rule bare_app word_rule) all_names) files_rule

-- a line, of which the program's own name is the first word: nothing in it is refused
abbrev pub IsLine : List Text → Type 0
IsLine line = fault_of framec line ≡ []

-- what a line comes to, where `clap` refuses nothing
abbrev pub unless_refused : Kinds → Option Line → Option Line
unless_refused [] line = line
unless_refused faults line = None

-- the command of the words after the program's own name, and its files; without one they are no command line
abbrev pub line_of : List Text → Option Line
line_of words =
    let line = codes "framec" ∷ words in
    unless_refused (fault_of framec line) (line_in (matches_of framec line))

abbrev pub Matches : List Text → Result ArgMatches Unmatched → Type 0
Matches line (Ok matches) = IsLine line × (rows_of (found_of matches) ≡ matches_of framec line)
Matches line (Err NoLine) = ¬ IsLine line
Matches line (Err NoMemory) = Unit {0}
