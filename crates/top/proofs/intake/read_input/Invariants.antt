use Rattle.std.proofs.Common.{◌≡◌, ◌≤◌, length, ◌-◌, ◌+◌, vec_len}
use Rattle.std.specs.Io.KnownBytes.{Consumes}
use Rattle.top.proofs.intake.read_input.Given as goal

abbrev pub invariant-loop-bytes : goal.invariant-loop-bytes
invariant-loop-bytes g l =
    record {
      taken : Consumes (g.I.Source.left l.fn.input) (g.I.Source.left l.input) l.bytes.items;
      most : length l.bytes.items ≤ l.limit + 1;
      count : g.I.Source.faults l.input ≡ g.I.Source.faults l.fn.input;
      room : vec_len l.buffer ≡ 65536;
    }

abbrev pub decreases-loop-bytes : goal.decreases-loop-bytes
decreases-loop-bytes g l = (l.limit + 1) - length l.bytes.items
