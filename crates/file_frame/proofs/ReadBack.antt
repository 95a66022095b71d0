-- A text that is a frame's JSON value is read as the frame.
use Rattle.std.proofs.Common.{◌≡◌, ℕ, List, [], Some, Ok, refl}
use Rattle.file_json.specs.Json.{json_of}
use Rattle.frame.specs.declared.frame.Frame.{Frame}
use Rattle.file_frame.specs.Files.{frame_of}
use Rattle.file_frame.specs.Frames.{frame_data, FitsFrame}
use Rattle.file_frame.proofs.Again.{format_again, frame_again}

pub read_back : (frame : Frame) (text : List ℕ) → FitsFrame frame → json_of text ≡ Some (frame_data frame) → frame_of text ≡ Ok frame
read_back frame text fits reads = rw (reads, format_again frame, frame_again [] frame fits) refl
