-- Where batches begin: at a queue's first node, after each signal that is not its last node, and before waits that follow an item.
-- By the form of a batch nothing follows its signal, and no wait follows an item in it: so a batch begins at each of these places.
use Rattle.std.specs.Prelude.{◌≡◌, ◌⊎◌, ℕ, suc, ◌<◌, ◌+◌, List, length, slice_get, true, Some, is_some, option_to_list}
use Rattle.std.specs.List.{All}
use Rattle.compile_record.specs.declared.compiled.Compiled.{Compiled}
use Rattle.frame.specs.Numbered.{NumberedFrame}
use Rattle.program.specs.declared.program.Batch.{Batch}
use Rattle.program.specs.declared.program.Program.{Program}
use Rattle.program.specs.declared.program.Queue.{Queue}

-- it has a node
abbrev pub HasNode : Batch → Type 0
HasNode batch = 0 < length batch.waits + (length batch.items + length (option_to_list batch.signal))

-- what ends batch a and begins batch b: a signal, or an item and then a wait
abbrev pub IsBeginning : Batch → Batch → Type 0
IsBeginning a b = (is_some a.signal ≡ true) ⊎ ((0 < length a.items) × (0 < length b.waits))

-- and nowhere else does a batch begin
pub record IsCutUp (batches : List Batch) : Type 0 where
  pub some : All HasNode batches
  pub each : (k : ℕ) (a b : Batch) → slice_get batches k ≡ Some a → slice_get batches (suc k) ≡ Some b → IsBeginning a b

abbrev pub AreBegun : NumberedFrame → Compiled Program → Type 0
AreBegun frame made = All (λ (queue : Queue). IsCutUp queue.batches) made.program.queues
