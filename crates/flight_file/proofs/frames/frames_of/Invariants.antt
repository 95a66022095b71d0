use Rattle.std.proofs.Common.{◌≡◌, drop, length}
use Rattle.flight_file.proofs.Cutting.{texts}
use Rattle.flight_file.proofs.frames.frames_of.Given as goal
use Rattle.flight_file.specs.Internal.Reading.{after_frames}
use Rattle.flight_file.specs.Files.{frames_of}

abbrev pub invariant-loop-i : goal.invariant-loop-i
invariant-loop-i l = record {
  many : length l.frames ≡ l.i;
  so_far : after_frames l.frames (frames_of l.i (texts (drop l.i l.lines))) ≡ frames_of 0 (texts l.lines);
}
