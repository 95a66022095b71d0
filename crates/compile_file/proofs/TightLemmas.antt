-- What is submitted for a frame.
use Rattle.std.proofs.Common.{◌≡◌, ◌∙◌, List, Bool, true, false, length, None, refl, ap, subst}
use Rattle.check_program.specs.Sound.{IsSound}
use Rattle.law_meaning.specs.DeclaredLaws.{HasDeclaredOrder}
use Rattle.law_meaning.specs.Laws.{IsReadMeant}
use Rattle.frame.specs.Numbered.{NumberedFrame}
use Rattle.compile_heap.specs.Placing.{Places}
use Rattle.compile_record.specs.Recorded.{IsCompiled}
use Rattle.compile_record.specs.declared.compiled.Compiled.{Compiled}
use Rattle.program.specs.FirstFault.{first_fault}
use Rattle.program.specs.declared.program.Program.{Program}
use Rattle.check_tighten.specs.Standing.{StandsTo}
use Rattle.check_tighten.specs.Tight.{Tight}
use Rattle.check_tighten.specs.Tightened.{IsTightened}
use Rattle.compile_file.specs.Compiles.{Compiles, Tightens}
use Rattle.frame_cull.specs.Culled.{AreKept}

module _ (frame : NumberedFrame) (kept : List Bool) (places : Places) where
  abbrev made : Program → Compiled Program
  made program = record { program = program; kept = kept; placement = places }

  -- the compiled program itself
  pub as_compiled : (program : Program) → AreKept frame kept → IsCompiled frame (made program) → first_fault program ≡ None → IsSound program → IsReadMeant frame program → length program.readbacks ≡ length frame.exports → HasDeclaredOrder frame kept program → Compiles false frame (made program)
  as_compiled program are is faultless sound means readbacks in_order = record {
    are_kept = are;
    given = program;
    compiled = is;
    submits = refl;
    right = record { faultless = faultless; sound = sound; readbacks = readbacks; means = means };
    in_order = in_order;
  }

  -- one that is tight; the host reads the same, whatever waits keep a program sound
  pub as_tight : (given program : Program) → Compiles false frame (made given) → StandsTo given program → Tight program → IsTightened given program → ((f : NumberedFrame) (g p : Program) → StandsTo g p → IsSound g → first_fault p ≡ None → IsSound p → IsReadMeant f g → IsReadMeant f p) → ((f : NumberedFrame) (k : List Bool) (g p : Program) → StandsTo g p → HasDeclaredOrder f k g → HasDeclaredOrder f k p) → Compiles true frame (made program)
  as_tight given program compiles stands tight tightened means ordered =
      let passes = tight.passes in
      record {
        are_kept = compiles.are_kept;
        given = compiles.given;
        compiled = compiles.compiled;
        submits = subst (λ g. Tightens g program) compiles.submits (record { tightened = tightened; stands = stands; tight = tight });
        right = record {
          faultless = passes.faultless;
          sound = passes.sound;
          readbacks = ap length stands.readbacks ∙ compiles.right.readbacks;
          means = means frame given program stands compiles.right.sound passes.faultless passes.sound compiles.right.means;
        };
        in_order = ordered frame kept given program stands compiles.in_order;
      }
