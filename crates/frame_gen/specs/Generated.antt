-- The frame that a number gives.
use Rattle.std.specs.Prelude.{ℕ, Bool, List, [], ◌∷◌, ◌++◌, ◌+◌, ◌/◌, ◌%◌, ◌==◌, ◌||◌, map, codes, true, false, None, if◌then◌else◌}
use Rattle.std.specs.Fmt.{decimal}
use Rattle.std.specs.List.{filter, range_with_len}
use Rattle.base.specs.declared.shape.Family.TheVariants.{Graphics, Compute, Transfer}
use Rattle.base.specs.declared.shape.Shape.TheVariants.{Image}
use Rattle.base.specs.declared.shape.Texel.TheVariants.{R32}
use Rattle.vk.specs.declared.sharing.Sharing.TheVariants.{Exclusive}
use Rattle.frame.specs.declared.frame.Frame.{Frame}
use Rattle.frame.specs.declared.frame.Pass.{Pass}
use Rattle.frame.specs.declared.frame.QueueDecl.{QueueDecl}
use Rattle.frame.specs.declared.frame.Resource.{Resource}
use Rattle.frame.specs.declared.frame.Spot.{Spot}
use Rattle.frame_gen.specs.Operations.{drawn, kind_of, first_source, second_source, op_by, reads_by}

abbrev pub resource_name : ℕ → List ℕ
resource_name i = codes "r" ++ decimal i

abbrev pub pass_name : ℕ → List ℕ
pass_name i = codes "p" ++ decimal i

abbrev pub spot : ℕ → Spot
spot i = record { name = resource_name i; layer = None }

abbrev pub queues : List QueueDecl
queues =
    record { name = codes "g"; family = Graphics }
    ∷ record { name = codes "c"; family = Compute }
    ∷ record { name = codes "t"; family = Transfer }
    ∷ []

-- copies are on the transfer queue
abbrev pub queue_by : ℕ → ℕ → List ℕ
queue_by kind w = if kind == 4 then codes "t" else (if w / 125 % 2 == 0 then codes "g" else codes "c")

abbrev pub resource : ℕ → Resource
resource i = record { name = resource_name i; shape = Image 64 64 R32; layers = 1; import = None; sharing = Exclusive }

-- pass i, of which w is the number
abbrev pub pass_by : ℕ → ℕ → Pass
pass_by w i = record {
  name = pass_name i;
  queue = queue_by (kind_of w i) w;
  reads = map spot (reads_by (kind_of w i) (first_source w i) (second_source w i));
  writes = record { what = spot i; fresh = true } ∷ [];
  ops = op_by (kind_of w i) w (spot (first_source w i)) (spot (second_source w i)) (spot i) ∷ [];
  side_effect = false;
}

-- each sixteenth resource, and the last one
abbrev pub is_exported : ℕ → ℕ → Bool
is_exported passes i = i % 16 == 15 || i + 1 == passes

abbrev pub exported : ℕ → List ℕ
exported passes = filter (is_exported passes) (range_with_len 0 passes)

abbrev pub generated : ℕ → ℕ → Frame
generated number passes = record {
  queues = queues;
  resources = map resource (range_with_len 0 passes);
  passes = map (λ i. pass_by (drawn number i) i) (range_with_len 0 passes);
  exports = map spot (exported passes);
}
