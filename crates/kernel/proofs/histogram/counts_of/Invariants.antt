use Rattle.std.proofs.Common.{◌≡◌, ℕ, ◌<◌, ◌%◌, ◌^◌, take, ◌==◌}
use Rattle.std.specs.Prelude.{slice_index, count_by}
use Rattle.kernel.proofs.histogram.counts_of.Given as goal

abbrev pub invariant-loop-byte : goal.invariant-loop-byte
invariant-loop-byte l = (v : ℕ) → v < 256 → slice_index l.counts v ≡ count_by (λ texel. texel == v) (take l.byte-index l.src) % 2 ^ 32
