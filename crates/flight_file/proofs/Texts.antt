-- The lines of one frame more.
use Rattle.std.proofs.Common.{◌≡◌, ◌+◌, ◌≤◌, ◌++◌, ℕ, zero, suc, List, [], ◌∷◌, length, take, Some, slice_get, inl, inr, sym, ap, ◌∙◌, add-one, append_assoc, append-nil, arith}
use Rattle.std.specs.Prelude.{◌⊎◌}
use Rattle.flight.specs.Flight.{Flight}
use Rattle.flight_file.proofs.Cutting.{take_all}
use Rattle.flight_file.specs.Internal.Flying.{text_before}
use Rattle.flight_file.specs.Texts.{bytes_alone, frames_text}
use Rattle.frame.specs.declared.frame.Frame.{Frame}
use Rattle.report.specs.Flights.{flight_text}
use Rattle.report.specs.declared.flight.FlightLine.TheVariants as lines
use Rattle.compile_file.specs.Exports.{exports_text}

-- the line of frame i, and its exports
abbrev pub one_text : List Frame → List (List ℕ) → ℕ → Frame → List ℕ
one_text frames persist i frame = flight_text (lines.Frame i) ++ exports_text frame (bytes_alone frames persist i frame)

module _ (frames : List Frame) (persist : List (List ℕ)) where
  more : (j n : ℕ) (xs : List Frame) (frame : Frame) → slice_get xs n ≡ Some frame → frames_text frames persist j (take (suc n) xs) ≡ frames_text frames persist j (take n xs) ++ one_text frames persist (j + n) frame
  more j n [] frame at = absurd cc
  more j zero (x ∷ xs) frame at =
      let E : List ℕ = exports_text x (bytes_alone frames persist j x) in
      let same : x ≡ frame = cc in
      let here : j ≡ j + 0 = omega arith in
      ap (λ es. flight_text (lines.Frame j) ++ es) (append-nil E) ∙ ap (one_text frames persist j) same ∙ ap (λ i. one_text frames persist i frame) here
  more j (suc n) (x ∷ xs) frame at =
      let L : List ℕ = flight_text (lines.Frame j) in
      let E : List ℕ = exports_text x (bytes_alone frames persist j x) in
      let R : List ℕ = frames_text frames persist (suc j) (take n xs) in
      let same : suc j + n ≡ j + suc n = omega arith in
      let step : frames_text frames persist (suc j) (take (suc n) xs) ≡ R ++ one_text frames persist (j + suc n) frame = more (suc j) n xs frame at ∙ ap (λ i. R ++ one_text frames persist i frame) same in
      let new : List ℕ = one_text frames persist (j + suc n) frame in
      ap (λ rest. L ++ (E ++ rest)) step ∙ ap (λ rest. L ++ rest) (sym (append_assoc E R new)) ∙ sym (append_assoc L (E ++ R) new)

-- one frame further
pub text_on : (flight : Flight) (i : ℕ) (frame : Frame) (text text' : List ℕ) → slice_get flight.frames i ≡ Some frame → text' ≡ text ++ one_text flight.frames flight.persist i frame → text ≡ text_before flight i → text' ≡ text_before flight (i + 1)
text_on flight i frame text text' at grows so_far =
    let here : i ≡ 0 + i = omega arith in
    let old : List ℕ = frames_text flight.frames flight.persist 0 (take i flight.frames) in
    let new : List ℕ = one_text flight.frames flight.persist i frame in
    let whole : text' ≡ old ++ new = grows ∙ ap (λ t. t ++ new) so_far in
    let same : old ++ new ≡ frames_text flight.frames flight.persist 0 (take (suc i) flight.frames) = ap (λ j. old ++ one_text flight.frames flight.persist j frame) here ∙ sym (more flight.frames flight.persist 0 i flight.frames frame at) in
    rw add-one (whole ∙ same)

-- all frames of a window, as far as they exist
pub text_to : (flight : Flight) (i to : ℕ) (text : List ℕ) → i ≤ to → (i ≡ to) ⊎ (i ≡ length flight.frames) → text ≡ text_before flight i → text ≡ text_before flight to
text_to flight i to text le (inl e) so_far = so_far ∙ ap (text_before flight) e
text_to flight i to text le (inr e) so_far =
    so_far ∙ ap (frames_text flight.frames flight.persist 0) (take_all flight.frames i (omega (arith, e)) ∙ sym (take_all flight.frames to (omega (arith, e, le))))

-- all frames
pub text_all : (flight : Flight) (to : ℕ) (text : List ℕ) → length flight.frames ≤ to → text ≡ text_before flight to → text ≡ frames_text flight.frames flight.persist 0 flight.frames
text_all flight to text far so_far = so_far ∙ ap (frames_text flight.frames flight.persist 0) (take_all flight.frames to far)
