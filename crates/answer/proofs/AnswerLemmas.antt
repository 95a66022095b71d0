-- What a command answers to a file.
use Rattle.std.proofs.Common.{◌≡◌, ◌<◌, ◌≤◌, ℕ, Bool, List, [], ◌∷◌, ◌++◌, length, Some, None, is_some, Ok, refl, sym, ap, subst, ◌∙◌, arith}
use Rattle.std.proofs.lemmas.Bool.{false≢true}
use Rattle.std.proofs.lemmas.Option.{same_Some}
use Rattle.std.specs.declared.option.Option.{Option}
use Rattle.answer.proofs.LineEnd.{again_line}
use Rattle.answer.specs.Answers.{MigratesFrame, CompilesFrame}
use Rattle.compile_file.specs.Compiles.{Compiles}
use Rattle.compile_file.specs.Files.{frame_file, program_file, if_read, unless_broken}
use Rattle.answer.specs.Inputs.{ByLimit, file_of, limit_of}
use Rattle.answer.specs.Plain.{done}
use Rattle.answer.specs.declared.files.File.{File}
use Rattle.frame.specs.FirstFault.{first_fault}
use Rattle.frame.specs.Numbered.{numbered}
use Rattle.frame.specs.declared.frame.Frame.{Frame}
use Rattle.file_frame.specs.Files as frames
use Rattle.file_frame.specs.Files.{frame_of, frame_text}
use Rattle.compile_record.specs.declared.compiled.Compiled.{Compiled}
use Rattle.file_program.specs.Files as submissions
use Rattle.file_program.specs.Files.{program_of, program_text}
use Rattle.program.specs.FirstFault as programs
use Rattle.program.specs.declared.program.Program.{Program}
use Rattle.cli.specs.declared.command.Command.{Command}

pub migrated : (frame : Frame) (text whole : List ℕ) → text ≡ frame_text frame → (first_fault frame ≡ None → frame_of text ≡ Ok frame) → first_fault frame ≡ None → whole ≡ text ++ 10 ∷ [] → MigratesFrame frame (done whole)
migrated frame text whole is again good ended = record {
  whole = ap done (ended ∙ ap (λ (t : List ℕ). t ++ 10 ∷ []) is);
  again = ap frame_file ended ∙ (ap (if_read first_fault) (again_line frames.file_of refl text frame (again good)) ∙ ap (unless_broken frame) good);
}

-- a program without a fault is read from its text and a line end
read_again : (program : Program) (text : List ℕ) → program_of text ≡ Ok program → programs.first_fault program ≡ None → program_file (text ++ 10 ∷ []) ≡ Ok program
read_again program text again faultless = ap (if_read programs.first_fault) (again_line submissions.file_of refl text program again) ∙ ap (unless_broken program) faultless

pub compiled : (tight : Bool) (frame : Frame) (made : Compiled Program) (text whole : List ℕ) → Compiles tight (numbered frame) made → text ≡ program_text made.program → (programs.first_fault made.program ≡ None → program_of text ≡ Ok made.program) → whole ≡ text ++ 10 ∷ [] → CompilesFrame tight frame (done whole)
compiled tight frame made text whole is written again ended = record {
  made = made;
  compiles = is;
  whole = ap done (ended ∙ ap (λ (t : List ℕ). t ++ 10 ∷ []) written);
  again = ap program_file ended ∙ read_again made.program text (again is.right.faultless) is.right.faultless;
}

-- BY THE LIMIT

pub no_file : (file : File) → ◌≡◌ {A = Option File} None (Some file) → ⊥
no_file file e = false≢true (ap is_some e)

module _ (command : Command) (bytes : List ℕ) (Over : File → Type 0) (Within : Type 0) where
  pub whole_file : (file : File) → file_of command ≡ Some file → length bytes ≤ limit_of file → Within → ByLimit command bytes Over Within
  whole_file file reads_it few is = record {
    over = λ other at more. let lt : limit_of file < length bytes = subst (λ f. limit_of f < length bytes) (sym (same_Some file other (sym reads_it ∙ at))) more in absurd (omega (arith, few, lt));
    within = λ all. is;
  }

  pub without_file : file_of command ≡ None → Within → ByLimit command bytes Over Within
  without_file none is = record {
    over = λ file at. absurd (no_file file (sym none ∙ at));
    within = λ all. is;
  }
