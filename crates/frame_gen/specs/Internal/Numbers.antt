-- A generated frame with numbers in place of names.
use Rattle.std.specs.Prelude.{ℕ, [], ◌∷◌, ◌/◌, ◌%◌, ◌==◌, map, replicate, true, false, None, if◌then◌else◌}
use Rattle.std.specs.List.{range_with_len}
use Rattle.base.specs.declared.shape.Family.TheVariants.{Graphics, Compute, Transfer}
use Rattle.base.specs.declared.shape.Shape.TheVariants.{Image}
use Rattle.base.specs.declared.shape.Texel.TheVariants.{R32}
use Rattle.vk.specs.declared.sharing.Sharing.TheVariants.{Exclusive}
use Rattle.frame.specs.Numbered.{NumberedFrame}
use Rattle.frame.specs.Units.{Unit}
use Rattle.frame.specs.declared.numbered.NumberedPass.{NumberedPass}
use Rattle.frame_gen.specs.Generated.{exported}
use Rattle.frame_gen.specs.Operations.{drawn, kind_of, first_source, second_source, op_by, reads_by}

abbrev pub image : Unit
image = record { shape = Image 64 64 R32; sharing = Exclusive; imported = None }

-- the number of the queue
abbrev pub queue_number_by : ℕ → ℕ → ℕ
queue_number_by kind w = if kind == 4 then 2 else (if w / 125 % 2 == 0 then 0 else 1)

-- pass i of a kind on resources a and b
abbrev pub numbered_by : ℕ → ℕ → ℕ → ℕ → ℕ → NumberedPass
numbered_by kind w a b i = record {
  queue = queue_number_by kind w;
  reads = reads_by kind a b;
  writes = record { what = i; fresh = true } ∷ [];
  ops = op_by kind w a b i ∷ [];
  side_effect = false;
}

abbrev pub numbered_at : ℕ → ℕ → NumberedPass
numbered_at w i = numbered_by (kind_of w i) w (first_source w i) (second_source w i) i

abbrev pub generated_numbers : ℕ → ℕ → NumberedFrame
generated_numbers number passes = record {
  units = replicate passes image;
  queues = Graphics ∷ Compute ∷ Transfer ∷ [];
  passes = map (λ i. numbered_at (drawn number i) i) (range_with_len 0 passes);
  exports = exported passes;
}
