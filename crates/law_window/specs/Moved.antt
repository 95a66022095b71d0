-- A pass over the same units, n further on.
use Rattle.std.specs.Prelude.{ℕ, map, ◌+◌}
use Rattle.base.specs.Operands.{mapped}
use Rattle.frame.specs.declared.frame.Write.{Write}
use Rattle.frame.specs.declared.numbered.NumberedPass.{NumberedPass}

abbrev pub moved_write : ℕ → Write ℕ → Write ℕ
moved_write n write = record { what = n + write.what; fresh = write.fresh }

abbrev pub moved : ℕ → NumberedPass → NumberedPass
moved n pass = record {
  queue = pass.queue;
  reads = map (λ unit. n + unit) pass.reads;
  writes = map (moved_write n) pass.writes;
  ops = map (mapped (λ unit. n + unit)) pass.ops;
  side_effect = pass.side_effect;
}
