-- The numbers of a command are within their bounds.
use Rattle.std.proofs.Common.{◌≡◌, ◌≤◌, ◌&&◌, ℕ, Bool, List, [], ◌∷◌, Option, Some, None, true, false, nat_le, codes, refl, arith}
use Rattle.std.specs.Prelude.{◌==◌, not, is_some, length, if◌then◌else◌, IfSome, unwrap_or, option_map, option_and_then}
use Rattle.std.specs.Str.Parse.{digits_value}
use Rattle.std.specs.List.{slice_split}
use Rattle.std.proofs.lemmas.Bool.{and_parts, false≢true, leb-true}
use Rattle.clap.specs.Words.{Kinds, Row, Text, fault_of, first_of, matches_of}
use Rattle.frame.specs.Repeats.{first_repeat}
use Rattle.cli.specs.CommandWords.{word_of}
use Rattle.cli.specs.Forms.{form_of}
use Rattle.cli.specs.Commands.{HasDepth, HasNames, HasPasses, HasWorkers, IsBounded, command_in, command_of_word, command_with, choosing, flying, generating, unless_more, without_json, without_options}
use Rattle.cli.specs.Files.{files_in, line_in, takes_files, with_files}
use Rattle.cli.specs.LineOptions.{line_options_in, is_none, number_in, word_in}
use Rattle.cli.specs.Lines.{framec, unless_refused, line_of}
use Rattle.cli.specs.Numbers.{is_number}
use Rattle.cli.specs.Persist.{all_named, are_different, if_different, persist_in}
use Rattle.cli.specs.Options.{options_in}
use Rattle.cli.specs.declared.command.Command.{Command}
use Rattle.cli.specs.declared.command.Command.TheVariants as commands
use Rattle.cli.specs.declared.command.FrameCommand.TheVariants as frames
use Rattle.cli.specs.declared.command.SubmissionCommand.TheVariants as submissions
use Rattle.cli.specs.declared.line.Line.{Line}
use Rattle.cli.specs.declared.option_name.OptionName.TheVariants as options
use Rattle.cli.specs.declared.line_options.LineOptions.{LineOptions}
use Rattle.cli.specs.declared.word.Word.{Word}
use Rattle.cli.specs.declared.word.Word.TheVariants.{Cull, Place, Bound, Compile, Auto, Meaning, Migrate, Check, Gen, Run, Exec, Flight, Audit}

abbrev Within : ℕ → ℕ → ℕ → Type 0
Within least most n = (least ≤ n) × (n ≤ most)

within_if : (least most n : ℕ) (read low high : Bool) → (low ≡ true → least ≤ n) → (high ≡ true → n ≤ most) → IfSome (if read && (low && high) then Some n else None) (Within least most)
within_if least most n false low high fits ends = tt
within_if least most n true false high fits ends = tt
within_if least most n true true false fits ends = tt
within_if least most n true true true fits ends = (fits refl, ends refl)

wrapped : {X : Type 0} (P : X → Type 0) (o : Option X) → IfSome o P → IfSome (option_map (λ x. Some x) o) (λ found. IfSome found P)
wrapped P None is = tt
wrapped P (Some x) is = is

number_is : (least most : ℕ) (word : Option (List ℕ)) → IfSome (number_in least most word) (λ found. IfSome found (Within least most))
number_is least most None = tt
number_is least most (Some word) =
    let n = digits_value 10 word in
    wrapped (Within least most) (if is_number word && (nat_le least n && nat_le n most) then Some n else None) (within_if least most n (is_number word) (nat_le least n) (nat_le n most) (λ e. leb-true least n e) (λ e. leb-true n most e))

-- what is said of the numbers of a line
abbrev AreWithin : LineOptions → Type 0
AreWithin given = IfSome given.workers (Within 1 16) × IfSome given.passes (Within 1 256) × IfSome given.depth (Within 1 8)

-- ONE AFTER ANOTHER

next : {X Y : Type 0} (P : X → Type 0) (Q : Y → Type 0) (o : Option X) (f : X → Option Y) → IfSome o P → ((x : X) → P x → IfSome (f x) Q) → IfSome (option_and_then f o) Q
next P Q None f is goes = tt
next P Q (Some x) f is goes = goes x is

next_any : {X Y : Type 0} (Q : Y → Type 0) (o : Option X) (f : X → Option Y) → ((x : X) → IfSome (f x) Q) → IfSome (option_and_then f o) Q
next_any Q None f goes = tt
next_any Q (Some x) f goes = goes x

mapped : {X Y : Type 0} (P : X → Type 0) (Q : Y → Type 0) (o : Option X) (f : X → Y) → IfSome o P → ((x : X) → P x → Q (f x)) → IfSome (option_map f o) Q
mapped P Q None f is goes = tt
mapped P Q (Some x) f is goes = goes x is

given_is : (rows : List Row) → IfSome (line_options_in rows) AreWithin
given_is rows =
    next (λ found. IfSome found (Within 1 16)) AreWithin (number_in 1 16 (word_in options.Workers rows)) _ (number_is 1 16 (word_in options.Workers rows)) (λ workers few.
    next_any AreWithin (number_in 0 4294967295 (word_in options.Tend rows)) _ (λ tend.
    next_any AreWithin (number_in 0 4294967295 (word_in options.Number rows)) _ (λ number.
    next (λ found. IfSome found (Within 1 256)) AreWithin (number_in 1 256 (word_in options.Passes rows)) _ (number_is 1 256 (word_in options.Passes rows)) (λ passes fit.
    mapped (λ found. IfSome found (Within 1 8)) AreWithin (number_in 1 8 (word_in options.Depth rows)) _ (number_is 1 8 (word_in options.Depth rows)) (λ depth low. (few, fit, low))))))

or_some : (least most otherwise : ℕ) (o : Option ℕ) → IfSome o (Within least most) → Within least most otherwise → Within least most (unwrap_or o otherwise)
or_some least most otherwise None is instead = instead
or_some least most otherwise (Some n) is instead = is

has_workers : (given : LineOptions) → AreWithin given → HasWorkers (options_in given)
has_workers given is = or_some 1 16 2 given.workers is.0 (omega arith, omega arith)

has_passes : (given : LineOptions) → AreWithin given → HasPasses (unwrap_or given.passes 64)
has_passes given is = or_some 1 256 64 given.passes is.1 (omega arith, omega arith)

unless : (rest : LineOptions) (command : Command) → IsBounded command → IfSome (unless_more rest command) IsBounded
unless rest command is = by (is_none rest)
  where
    by : (none : Bool) → IfSome (if none then Some command else None) IsBounded
    by true = is
    by false = tt

chosen : (given : LineOptions) → IfSome (choosing given) IsBounded
chosen given = by given.cost
  where
    by : (cost : Bool) → IfSome (if cost then unless_more (record (without_json given) { cost = false }) (commands.Frame (frames.Cost (form_of given.json))) else unless_more given (commands.Frame frames.Auto)) IsBounded
    by true = unless (record (without_json given) { cost = false }) (commands.Frame (frames.Cost (form_of given.json))) tt
    by false = unless given (commands.Frame frames.Auto) tt

generated : (given : LineOptions) (number : ℕ) → AreWithin given → IfSome (generating given number) IsBounded
generated given number is = by given.summary
  where
    passes : ℕ
    passes = unwrap_or given.passes 64

    rest : LineOptions
    rest = record given { number = None; passes = None; summary = false }

    by : (summary : Bool) → IfSome (if summary then unless_more (without_options rest) (commands.Summary number passes (options_in given)) else unless_more rest (commands.Gen number passes)) IsBounded
    by true = unless (without_options rest) (commands.Summary number passes (options_in given)) (has_passes given is, has_workers given is)
    by false = unless rest (commands.Gen number passes) (has_passes given is)

names_are : (names : List (List ℕ)) → are_different names ≡ true → HasNames names
names_are names is =
    let entries = and_parts (nat_le (length names) 16) (not (is_some (first_repeat names))) is in
    (leb-true (length names) 16 entries.0, none_there (first_repeat names) entries.1)
  where
    none_there : (found : Option ℕ) → not (is_some found) ≡ true → found ≡ None
    none_there None e = refl
    none_there (Some at) e = absurd (false≢true e)

different_are : (found : Option (List (List ℕ))) → IfSome (if_different found) HasNames
different_are None = tt
different_are (Some names) = by (are_different names) (λ is. names_are names is)
  where
    by : (different : Bool) → (different ≡ true → HasNames names) → IfSome (if different then Some names else None) HasNames
    by true is = is refl
    by false is = tt

persist_is : (word : Option (List ℕ)) → IfSome (persist_in word) HasNames
persist_is None = (omega arith, refl)
persist_is (Some text) = different_are (all_named (slice_split (λ b. b == 44) text))

has_depth : (given : LineOptions) → AreWithin given → HasDepth (unwrap_or given.depth 2)
has_depth given is = or_some 1 8 2 given.depth is.2 (omega arith, omega arith)

flying_is : (given : LineOptions) (persist : Option (List (List ℕ))) → AreWithin given → IfSome persist HasNames → IfSome (flying given persist) IsBounded
flying_is given persist is names =
    next HasNames IsBounded persist _ names (λ found are. unless (record (without_options given) { depth = None; persist = false }) (commands.Flight (options_in given) found (unwrap_or given.depth 2)) (has_workers given is, are, has_depth given is))

word_is : (word : Word) (given : LineOptions) (persist : Option (List (List ℕ))) → AreWithin given → IfSome persist HasNames → IfSome (command_of_word word given persist) IsBounded
word_is Cull given persist is are = unless (without_json given) (commands.Frame (frames.Cull (form_of given.json))) tt
word_is Place given persist is are = unless (without_json given) (commands.Frame (frames.Place (form_of given.json))) tt
word_is Bound given persist is are = unless (without_json given) (commands.Frame (frames.Bound (form_of given.json))) tt
word_is Compile given persist is are = unless (record given { tight = false }) (commands.Frame (frames.Compile given.tight)) tt
word_is Auto given persist is are = chosen given
word_is Meaning given persist is are = unless given (commands.Frame frames.Meaning) tt
word_is Migrate given persist is are = unless given (commands.Frame frames.Migrate) tt
word_is Check given persist is are = unless (without_json given) (commands.Submission (submissions.Check (form_of given.json))) tt
word_is Gen given persist is are = next_any IsBounded given.number (generating given) (λ number. generated given number is)
word_is Run given persist is are = unless (record (without_options given) { trace = false; tight = false }) (commands.Run (options_in given) given.trace given.tight) (has_workers given is)
word_is Exec given persist is are = unless (record (without_options given) { trace = false }) (commands.Exec (options_in given) given.trace) (has_workers given is)
word_is Flight given persist is are = flying_is given persist is are
word_is Audit given persist is are = unless given commands.Audit tt

with_is : (rows : List Row) (text : List ℕ) → IfSome (command_with rows text) IsBounded
with_is rows text = next_any IsBounded (word_of text) _ (λ word. next AreWithin IsBounded (line_options_in rows) _ (given_is rows) (λ given is. word_is word given (persist_in (word_in options.Persist rows)) is (persist_is (word_in options.Persist rows))))

command_is : (rows : List Row) → IfSome (command_in rows) IsBounded
command_is rows = next_any IsBounded (first_of (codes "command") rows) (command_with rows) (λ text. with_is rows text)

abbrev LineIsBounded : Line → Type 0
LineIsBounded line = IsBounded line.command

files_are : (files : List (List ℕ)) (command : Command) → IsBounded command → IfSome (with_files files command) LineIsBounded
files_are files command is = by (takes_files command (length files))
  where
    by : (takes : Bool) → IfSome (if takes then Some (record { command = command; files = files }) else None) LineIsBounded
    by true = is
    by false = tt

line_is : (rows : List Row) → IfSome (line_in rows) LineIsBounded
line_is rows = next IsBounded LineIsBounded (command_in rows) (with_files (files_in rows)) (command_is rows) (files_are (files_in rows))

kept : (faults : Kinds) (line : Option Line) → IfSome line LineIsBounded → IfSome (unless_refused faults line) LineIsBounded
kept [] line is = is
kept (fault ∷ faults) line is = tt

pub bounded_lines : (words : List Text) → IfSome (line_of words) LineIsBounded
bounded_lines words =
    let line : List Text = codes "framec" ∷ words in
    let rows : List Row = matches_of framec line in
    kept (fault_of framec line) (line_in rows) (line_is rows)
