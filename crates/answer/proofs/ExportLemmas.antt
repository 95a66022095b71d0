-- Exports with their bytes.
use Rattle.std.proofs.Common.{◌≡◌, ℕ, List, get_or, Some, ap, subst}
use Rattle.std.proofs.lemmas.List.Elements.{All-get_or}
use Rattle.std.proofs.lemmas.Option.{slice_get_within, get_or_from_slice_get}
use Rattle.std.specs.List.{All}
use Rattle.base.specs.Applied.{bytes_at}
use Rattle.frame.specs.Numbered.{numbered}
use Rattle.frame.specs.declared.frame.Frame.{Frame}
use Rattle.frame_meaning.specs.Meaning.{meaning}
use Rattle.answer.specs.Answers.{MeansFrame}
use Rattle.answer.specs.Plain.{done}
use Rattle.answer.specs.Internal.Stages.{bytes_in}
use Rattle.compile_file.specs.Exports.{exports_text}

-- what the exported units hold is printed
pub means_frame : (frame : Frame) (units : List (List ℕ)) (text : List ℕ) → All (λ unit. meaning (numbered frame) unit ≡ Some (bytes_at units unit)) (numbered frame).exports → text ≡ exports_text frame (bytes_in frame units) → MeansFrame frame (done text)
means_frame frame units text hold is = record {
  bytes = bytes_in frame units;
  meant = λ k unit at.
      let exports : List ℕ = (numbered frame).exports in
      let here : get_or exports k 0 ≡ unit = get_or_from_slice_get exports k unit 0 at in
      subst (λ (u : ℕ). meaning (numbered frame) u ≡ Some (bytes_at units (get_or exports k 0))) here (All-get_or (λ u. meaning (numbered frame) u ≡ Some (bytes_at units u)) exports k 0 (slice_get_within exports k unit at) hold);
  whole = ap done is;
}
