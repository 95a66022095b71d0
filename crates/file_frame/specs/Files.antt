-- The frame that bytes are, or the first fault.
use Rattle.std.specs.Prelude.{◌≡◌, ℕ, ◌==◌, List, [], ◌∷◌, Option, Some, None, Result, Ok, Err, if◌then◌else◌, codes}
use Rattle.base.specs.declared.path.Leg.TheVariants as leg
use Rattle.file_json.specs.Json.{json_of}
use Rattle.file_json.specs.Reading.{Reading}
use Rattle.frame.specs.Faults.{not_json, misshapen}
use Rattle.frame.specs.declared.fault.FrameFault.{FrameFault}
use Rattle.frame.specs.declared.frame.Frame.{Frame}
use Rattle.file_frame.specs.Frames.{format_at, frame_at, frame_data}
use Rattle.file_frame.specs.declared.file.FrameReadError.{FrameReadError}
use Rattle.file_frame.specs.declared.file.FrameReadError.TheVariants as ends
use Rattle.serde_json.specs.Data.{Data}
use Rattle.serde_json.specs.Written.{compact_text}

-- F3, at the member
abbrev pub unknown_format : FrameFault
unknown_format = record { number = 3; limit = None; location = leg.Member (codes "format") ∷ [] }

-- a first fault of form is F2 at its path
abbrev pub shaped : Reading Frame → Result Frame FrameFault
shaped (Ok frame) = Ok frame
shaped (Err path) = Err (misshapen path)

-- the format is 1 or 2; where it is another whole number, nothing else is examined
abbrev pub of_format : Reading ℕ → Data → Result Frame FrameFault
of_format (Err path) d = Err (misshapen path)
of_format (Ok format) d =
    if format == 1 then shaped (frame_at 1 [] d) else
    if format == 2 then shaped (frame_at 2 [] d) else
    Err unknown_format

-- the frame that a JSON value is
abbrev pub frame_in : Data → Result Frame FrameFault
frame_in d = of_format (format_at [] d) d

abbrev pub file_of : Option Data → Result Frame FrameFault
file_of None = Err not_json
file_of (Some d) = frame_in d

abbrev pub frame_of : List ℕ → Result Frame FrameFault
frame_of bytes = file_of (json_of bytes)

-- a function ended with this fault, unless memory ran out
abbrev pub Refuses : FrameReadError → FrameFault → Type 0
Refuses ends.NoMemory fault = Unit {0}
Refuses (ends.Refused found) fault = found ≡ fault

-- what a function returned is this frame or fault, unless memory ran out
abbrev pub FrameGives : Result Frame FrameReadError → Result Frame FrameFault → Type 0
FrameGives (Ok frame) found = found ≡ Ok frame
FrameGives (Err ends.NoMemory) found = Unit {0}
FrameGives (Err (ends.Refused fault)) found = found ≡ Err fault

-- the canonical text of a frame
abbrev pub frame_text : Frame → List ℕ
frame_text frame = compact_text (frame_data frame)
