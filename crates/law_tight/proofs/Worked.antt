-- A worked row: three queues, one of which waits for both others, and the waits that are left when none can be left out.
use Rattle.std.proofs.Common.{◌≡◌, inl, inr, ℕ, List, [], ◌∷◌, length, Some, refl}
use Rattle.std.proofs.lemmas.Bool.{false≢true}
use Rattle.base.specs.Texels.{band, low_bytes}
use Rattle.base.specs.declared.op.Op.TheVariants.{FillBuffer, CopyBuffer}
use Rattle.base.specs.declared.shape.Family.TheVariants.{Graphics}
use Rattle.base.specs.declared.shape.Shape.TheVariants.{Buffer}
use Rattle.vk.specs.Stages.{all_commands, clear, copy}
use Rattle.vk.specs.declared.sharing.Sharing.TheVariants.{Exclusive}
use Rattle.check_program.specs.Apart.{host_bytes}
use Rattle.check_order.specs.Nodes.{program_nodes}
use Rattle.program.specs.declared.program.Item.{Item}
use Rattle.program.specs.declared.program.Item.TheVariants.{Command}
use Rattle.program.specs.declared.program.Memory.TheVariants.{Plain}
use Rattle.program.specs.declared.program.Program.{Program}
use Rattle.program.specs.declared.program.Queue.{Queue}
use Rattle.program.specs.declared.program.WaitFor.{WaitFor}
use Rattle.check_tighten.specs.Standing.{Narrows, WaitsStand, StandsTo}

abbrev wait_for : ℕ → ℕ → ℕ → WaitFor
wait_for queue value stages = record { queue = queue; value = value; stages = record { 0 = stages } }

-- one batch of one command, and a signal
abbrev doing : List WaitFor → Item → Queue
doing waits item = record {
  family = Graphics;
  batches = record { waits = waits; items = item ∷ []; signal = Some (record { value = 1; stages = record { 0 = all_commands } }) } ∷ [];
}

-- a fill, a copy behind it, and a copy back behind both
abbrev program_of : List WaitFor → List WaitFor → Program
program_of second third = record {
  memories = Plain 256 ∷ Plain 256 ∷ [];
  pieces = record { shape = Buffer 4; memory = 0; offset = 0; sharing = Exclusive } ∷ record { shape = Buffer 4; memory = 1; offset = 0; sharing = Exclusive } ∷ [];
  queues =
      doing [] (Command (FillBuffer 0 0 4 7))
      ∷ doing second (Command (CopyBuffer 0 1 0 0 4))
      ∷ doing third (Command (CopyBuffer 1 0 0 0 4))
      ∷ [];
  readbacks = 1 ∷ [];
}

abbrev given : Program
given = program_of (wait_for 0 1 all_commands ∷ []) (wait_for 0 1 all_commands ∷ wait_for 1 1 all_commands ∷ [])

abbrev tight : Program
tight = program_of (wait_for 0 1 copy ∷ []) (wait_for 1 1 copy ∷ [])

narrows : (queue value : ℕ) → Narrows (wait_for queue value all_commands) (wait_for queue value copy)
narrows queue value = record { queue = refl; value = refl; some = refl; stages = inr refl }

stands : StandsTo given tight
stands = record {
  memories = refl;
  pieces = refl;
  queues = (
    record { family = refl; batches = (record { waits = tt; items = refl; signal = refl }, tt) },
    (
      record { family = refl; batches = (record { waits = inl (narrows 0 1, tt); items = refl; signal = refl }, tt) },
      (record { family = refl; batches = (record { waits = inr (inl (narrows 1 1, tt)); items = refl; signal = refl }, tt) }, tt),
    ),
  );
  readbacks = refl;
}

-- node 5 is gone
ten : length (program_nodes given) ≡ 10
ten = refl

nine : length (program_nodes tight) ≡ 9
nine = refl

abbrev order : List ℕ
order = 0 ∷ 1 ∷ 2 ∷ 3 ∷ 4 ∷ 5 ∷ 6 ∷ 7 ∷ 8 ∷ 9 ∷ []

abbrev other : List ℕ
other = 0 ∷ 1 ∷ 2 ∷ 3 ∷ 4 ∷ 5 ∷ 6 ∷ 7 ∷ 8 ∷ []

read : host_bytes given order 0 ≡ Some (7 ∷ 0 ∷ 0 ∷ 0 ∷ [])
unfolding band low_bytes
read = refl

read_alike : host_bytes tight other 0 ≡ Some (7 ∷ 0 ∷ 0 ∷ 0 ∷ [])
unfolding band low_bytes
read_alike = refl

-- NOT EVERYTHING STANDS TO A WAIT

later_value : WaitsStand (wait_for 0 1 copy ∷ []) (wait_for 0 2 copy ∷ []) → ⊥
later_value (inl (N, rest)) = absurd (let e = N.value in cc)
later_value (inr none) = none

another_stage : WaitsStand (wait_for 0 1 copy ∷ []) (wait_for 0 1 clear ∷ []) → ⊥
another_stage (inl (N, rest)) = false≢true N.some
another_stage (inr none) = none

exchanged : WaitsStand (wait_for 0 1 copy ∷ wait_for 1 1 copy ∷ []) (wait_for 1 1 copy ∷ wait_for 0 1 copy ∷ []) → ⊥
exchanged (inl (N, rest)) = absurd (let e = N.queue in cc)
exchanged (inr (inl (N, rest))) = rest
exchanged (inr (inr none)) = none
