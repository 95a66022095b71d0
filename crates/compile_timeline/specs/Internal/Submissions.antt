-- A queue's batches while they are written.
use Rattle.std.specs.Prelude.{◌≡◌, ℕ, suc, ◌-◌, List, [], ◌∷◌, ◌++◌, map, length, get_or, false, true, Option}
use Rattle.vk.specs.Stages.{all_commands}
use Rattle.program.specs.declared.program.Batch.{Batch}
use Rattle.program.specs.declared.program.Item.{Item}
use Rattle.program.specs.declared.program.Signal as programs
use Rattle.program.specs.declared.program.WaitFor.{WaitFor}
use Rattle.compile_timeline.specs.Batches.{batch, cut}
use Rattle.compile_timeline.specs.Below.{all_below}
use Rattle.compile_timeline.specs.Internal.Walks.{is_new}
use Rattle.compile_timeline.specs.Parts.{Part, Waits, Does, Signals, when}
use Rattle.compile_timeline.specs.Signals.{has_signal}
use Rattle.compile_timeline.specs.Waits.{last_item}
use Rattle.compile_timeline.specs.declared.needs.Needs.{Needs}
use Rattle.compile_timeline.specs.declared.signals.Signals as noted
use Rattle.compile_timeline.specs.declared.step.Step.{Step}
use Rattle.compile_timeline.specs.declared.submission.Submission.{Submission}

abbrev pub nothing : Submission
nothing = record { batches = []; waits = []; items = [] }

-- its open batch ends
abbrev pub ended : Submission → Option programs.Signal → Submission
ended submission signal = record { batches = submission.batches ++ batch submission.waits submission.items signal ∷ []; waits = []; items = [] }

abbrev pub open_parts : Submission → List Part
open_parts submission = map Waits submission.waits ++ map Does submission.items

-- all its batches, where these parts follow
abbrev pub with_rest : Submission → List Part → List Batch
with_rest submission rest = submission.batches ++ cut (open_parts submission ++ rest)

-- the parts are added
abbrev pub Adds : Submission → Submission → List Part → Type 0
Adds old new parts = (rest : List Part) → with_rest new rest ≡ with_rest old (parts ++ rest)

-- before a wait the two come to the same
abbrev pub SameBeforeWaits : Submission → Submission → Type 0
SameBeforeWaits old new = (wait : WaitFor) (rest : List Part) → with_rest new (Waits wait ∷ rest) ≡ with_rest old (Waits wait ∷ rest)

-- no batch is open
pub record IsClosed (submission : Submission) : Type 0 where
  pub waits : submission.waits ≡ []
  pub items : submission.items ≡ []

-- no batch is open before the first item of queue q, and behind one with a signal
pub record ClosedAt (script : List Step) (count q i : ℕ) (submission : Submission) : Type 0 where
  pub empty : last_item script q i ≡ 0 → IsClosed submission
  pub signalled : (j : ℕ) → last_item script q i ≡ suc j → has_signal script count q j ≡ true → IsClosed submission

-- a wait for the signal after the latest step that is needed
abbrev pub needed_wait : Needs → List ℕ → ℕ → WaitFor
needed_wait needs values p = record { queue = p; value = get_or values (get_or needs.latest p 0 - 1) 0; stages = record { 0 = all_commands } }

abbrev pub needed_waits : Needs → List ℕ → ℕ → List Part
needed_waits needs values count = all_below (λ p. when (is_new needs p) (Waits (needed_wait needs values p))) count

abbrev pub signal_at : List ℕ → ℕ → programs.Signal
signal_at values i = record { value = get_or values i 0; stages = record { 0 = all_commands } }

abbrev pub item_parts : Needs → noted.Signals → ℕ → Item → List Part
item_parts needs signals i item = needed_waits needs signals.values (length needs.latest) ++ Does item ∷ when (get_or signals.signalled i false) (Signals (signal_at signals.values i))
