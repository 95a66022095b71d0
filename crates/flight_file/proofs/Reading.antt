-- Frames that are read line by line.
use Rattle.std.proofs.Common.{◌≡◌, ◌+◌, ◌<◌, ◌≤◌, ◌++◌, ℕ, suc, Bor, List, [], ◌∷◌, length, drop, drop-cons, get_or, refl, sym, ap, ◌∙◌, add-one, append_assoc, append-nil, arith}
use Rattle.std.specs.Prelude.{Result, Ok, Err}
use Rattle.std.proofs.Math.Seq.{drop-length}
use Rattle.flight_file.proofs.Cutting.{texts}
use Rattle.flight_file.specs.Internal.Reading.{Gives, after_frames, in_line}
use Rattle.flight_file.specs.Files.{before, first_then, frames_of}
use Rattle.flight_file.specs.declared.frames.FlightFileError.{FlightFileError}
use Rattle.flight_file.specs.declared.frames.FlightFileError.TheVariants as ends
use Rattle.flight_file.specs.declared.refusal.Refusal.{Refusal}
use Rattle.flight_file.specs.declared.refusal.Refusal.TheVariants as refusals
use Rattle.frame.specs.declared.fault.FrameFault.{FrameFault}
use Rattle.frame.specs.declared.frame.Frame.{Frame}
use Rattle.compile_file.specs.Files.{frame_file}

-- the line at place i comes first
here : (lines : List (Bor (List ℕ))) (i : ℕ) (line d : Bor (List ℕ)) → i < length lines → line ≡ get_or lines i d → frames_of i (texts (drop i lines)) ≡ first_then i (frame_file line.now) (frames_of (suc i) (texts (drop (suc i) lines)))
here lines i line d lt is = ap (λ (rest : List (Bor (List ℕ))). frames_of i (texts rest)) (drop-cons lines i d lt ∙ ap (λ (l : Bor (List ℕ)). l ∷ drop (suc i) lines) (sym is))

read_first : (i : ℕ) (read : Result Frame FrameFault) (frame : Frame) (rest : Result (List Frame) Refusal) → in_line i read ≡ Ok frame → first_then i read rest ≡ before frame rest
read_first i (Ok other) frame rest is = let same : other ≡ frame = cc in ap (λ (f : Frame). before f rest) same
read_first i (Err fault) frame rest is = absurd cc

fault_first : (i : ℕ) (read : Result Frame FrameFault) (refusal : Refusal) (rest : Result (List Frame) Refusal) → in_line i read ≡ Err refusal → first_then i read rest ≡ Err refusal
fault_first i (Ok other) refusal rest is = absurd cc
fault_first i (Err fault) refusal rest is = let same : refusals.Frame i fault ≡ refusal = cc in ap (λ (r : Refusal). Err r) same

one_more : (frames : List Frame) (frame : Frame) (rest : Result (List Frame) Refusal) → after_frames (frames ++ frame ∷ []) rest ≡ after_frames frames (before frame rest)
one_more frames frame (Ok more) = ap (λ all. Ok all) (append_assoc frames (frame ∷ []) more)
one_more frames frame (Err refusal) = refl

-- one frame further
pub frame_on : (lines : List (Bor (List ℕ))) (i : ℕ) (line d : Bor (List ℕ)) (frame : Frame) (frames frames' : List Frame) (total : Result (List Frame) Refusal) → i < length lines → line ≡ get_or lines i d → in_line i (frame_file line.now) ≡ Ok frame → frames' ≡ frames ++ frame ∷ [] → after_frames frames (frames_of i (texts (drop i lines))) ≡ total → after_frames frames' (frames_of (i + 1) (texts (drop (i + 1) lines))) ≡ total
frame_on lines i line d frame frames frames' total lt is reads grows so_far =
    let rest : Result (List Frame) Refusal = frames_of (suc i) (texts (drop (suc i) lines)) in
    rw add-one (ap (λ fs. after_frames fs rest) grows ∙ one_more frames frame rest ∙ ap (after_frames frames) (sym (here lines i line d lt is ∙ read_first i (frame_file line.now) frame rest reads)) ∙ so_far)

-- the first fault
pub fault_on : (lines : List (Bor (List ℕ))) (i : ℕ) (line d : Bor (List ℕ)) (refusal : Refusal) (frames : List Frame) (total : Result (List Frame) Refusal) → i < length lines → line ≡ get_or lines i d → in_line i (frame_file line.now) ≡ Err refusal → after_frames frames (frames_of i (texts (drop i lines))) ≡ total → total ≡ Err refusal
fault_on lines i line d refusal frames total lt is fails so_far =
    let rest : Result (List Frame) Refusal = frames_of (suc i) (texts (drop (suc i) lines)) in
    sym so_far ∙ ap (after_frames frames) (here lines i line d lt is ∙ fault_first i (frame_file line.now) refusal rest fails)

-- the line has no frame
pub end_on : (lines : List (Bor (List ℕ))) (i : ℕ) (line d : Bor (List ℕ)) (e : FlightFileError) (frames : List Frame) (total : Result (List Frame) Refusal) → i < length lines → line ≡ get_or lines i d → Gives (in_line i (frame_file line.now)) (Err e) → after_frames frames (frames_of i (texts (drop i lines))) ≡ total → Gives total (Err e)
end_on lines i line d (ends.Refused refusal) frames total lt is fails so_far = fault_on lines i line d refusal frames total lt is fails so_far
end_on lines i line d ends.NoMemory frames total lt is fails so_far = tt

-- all frames
pub frames_end : (lines : List (Bor (List ℕ))) (i : ℕ) (frames : List Frame) (total : Result (List Frame) Refusal) → length lines ≤ i → i ≤ length lines → after_frames frames (frames_of i (texts (drop i lines))) ≡ total → total ≡ Ok frames
frames_end lines i frames total far near so_far =
    let e : i ≡ length lines = omega arith in
    let none : drop i lines ≡ [] = ap (λ n. drop n lines) e ∙ drop-length lines in
    sym so_far ∙ ap (λ (rest : List (Bor (List ℕ))). after_frames frames (frames_of i (texts rest))) none ∙ ap (λ all. Ok all) (append-nil frames)
