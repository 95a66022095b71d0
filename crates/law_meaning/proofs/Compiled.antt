-- A compiled program is made of the pieces, memories and read-backs of its frame.
use Rattle.std.proofs.Common.{◌≡◌, ℕ, Bool, true, List, length, refl, ap, ◌∙◌}
use Rattle.base.specs.Wholes.{is_whole}
use Rattle.base.specs.declared.op.Op.{Op}
use Rattle.base.specs.declared.shape.Shape.{Shape}
use Rattle.law_meaning.proofs.Declared.{reads_meaning}
use Rattle.law_meaning.proofs.Readbacks.{readback_count}
use Rattle.law_meaning.specs.Declared.{ops_in, declared_ops}
use Rattle.law_meaning.specs.Laws.{ReadsMeaning}
use Rattle.frame.specs.Valid.{IsValid}
use Rattle.frame.specs.Numbered.{NumberedFrame}
use Rattle.compile_groups.specs.Groups.{grouping}
use Rattle.compile_groups.specs.Laws.{IsGrouped, IsKnown}
use Rattle.kernel.specs.Anew.{IgnoresOld}
use Rattle.compile_record.specs.Recorded.{IsCompiled}
use Rattle.compile_record.specs.declared.compiled.Compiled.{Compiled}
use Rattle.program.specs.declared.program.Program.{Program}
use Rattle.frame_cull.specs.Culled.{AreKept}

pub reads_compiled : ((op : Op Shape) → is_whole op ≡ true → IgnoresOld op) → (frame : NumberedFrame) (made : Compiled Program) → IsValid frame → AreKept frame made.kept → IsGrouped (grouping frame made.kept) → IsKnown (grouping frame made.kept) → IsCompiled frame made → (order : List ℕ) → ops_in made.program order ≡ declared_ops (grouping frame made.kept) → ReadsMeaning frame made.program order
reads_compiled ignores frame made good are grouped known compiled order declared = reads_meaning ignores frame made.kept good are (grouping frame made.kept) made.placement.offsets made.placement.heap made.program (record {
  shapes_are = refl;
  imports_are = refl;
  commands_are = refl;
  grouped = grouped;
  known = known;
  pieces_are = ap (λ (P : Program). P.pieces) compiled.recorded;
  memories_are = ap (λ (P : Program). P.memories) compiled.recorded;
  readbacks_are = ap (λ (P : Program). P.readbacks) compiled.recorded;
}) order declared

pub one_each : (frame : NumberedFrame) (made : Compiled Program) → IsCompiled frame made → length made.program.readbacks ≡ length frame.exports
one_each frame made compiled = ap (λ (P : Program). length P.readbacks) compiled.recorded ∙ readback_count frame (grouping frame made.kept) refl refl
