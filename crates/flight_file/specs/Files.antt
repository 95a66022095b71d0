-- What a file with one frame on each line is: frames that fly together, or the first reason why it has none.
use Rattle.std.specs.Prelude.{ℕ, suc, ◌&&◌, nat_le, List, [], ◌∷◌, length, Result, Ok, Err, if◌then◌else◌}
use Rattle.std.specs.Option.{option_map}
use Rattle.flight.specs.Refusals.{first_refusal}
use Rattle.flight_file.specs.Lines.{lines_of}
use Rattle.flight_file.specs.declared.refusal.Refusal.{Refusal}
use Rattle.flight_file.specs.declared.refusal.Refusal.TheVariants.{Count, Frame, Flight}
use Rattle.frame.specs.declared.fault.FrameFault.{FrameFault}
use Rattle.frame.specs.declared.frame.Frame.{Frame as Declared}
use Rattle.compile_file.specs.Files.{frame_file, unless_broken}

abbrev pub before : Declared → Result (List Declared) Refusal → Result (List Declared) Refusal
before frame (Ok frames) = Ok (frame ∷ frames)
before frame (Err refusal) = Err refusal

-- the frame of line i before those of the lines behind it; its fault comes before theirs
abbrev pub first_then : ℕ → Result Declared FrameFault → Result (List Declared) Refusal → Result (List Declared) Refusal
first_then i (Ok frame) rest = before frame rest
first_then i (Err fault) rest = Err (Frame i fault)

-- the frames of lines from line i on, or the first line that has a fault
abbrev pub frames_of : ℕ → List (List ℕ) → Result (List Declared) Refusal
frames_of i [] = Ok []
frames_of i (line ∷ lines) = first_then i (frame_file line) (frames_of (suc i) lines)

-- frames, unless something keeps them from flying together
abbrev pub unless_refused : List (List ℕ) → ℕ → List Declared → Result (List Declared) Refusal
unless_refused persist depth frames = unless_broken frames (option_map (λ fault. Flight fault) (first_refusal frames persist depth))

abbrev pub if_frames : List (List ℕ) → ℕ → Result (List Declared) Refusal → Result (List Declared) Refusal
if_frames persist depth (Ok frames) = unless_refused persist depth frames
if_frames persist depth (Err refusal) = Err refusal

-- what bytes within the limit are: 1 to 64 lines, each of which is a frame, that fly together with these persisting names at this
-- depth
abbrev pub flight_file : List (List ℕ) → ℕ → List ℕ → Result (List Declared) Refusal
flight_file persist depth bytes =
    let lines = lines_of bytes in
    if nat_le 1 (length lines) && nat_le (length lines) 64 then if_frames persist depth (frames_of 0 lines) else Err Count
