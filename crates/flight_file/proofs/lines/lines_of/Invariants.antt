use Rattle.std.proofs.Common.{◌≡◌, ◌<◌, ◌++◌, length, map}
use Rattle.flight_file.specs.Lines.{lines_of}
use Rattle.flight_file.proofs.lines.lines_of.Given as goal

abbrev pub invariant-loop-k : goal.invariant-loop-k
invariant-loop-k l = record {
  some : 0 < length l.rest;
  many : length l.lines.items ≡ l.k;
  so_far : map (λ line. line.now) l.lines.items ++ lines_of l.rest ≡ lines_of l.bytes;
}
