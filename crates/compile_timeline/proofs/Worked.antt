-- Worked rows: what the definitions come to on written-out lists of steps.
use Rattle.std.proofs.Common.{◌≡◌, ℕ, List, [], ◌∷◌, Some, None, refl}
use Rattle.base.specs.declared.shape.Family.TheVariants.{Graphics, Compute, Transfer}
use Rattle.vk.specs.Stages.{all_commands}
use Rattle.program.specs.declared.program.Item as programs
use Rattle.program.specs.declared.program.Item.TheVariants.{Global}
use Rattle.program.specs.declared.program.Signal.{Signal}
use Rattle.program.specs.declared.program.WaitFor.{WaitFor}
use Rattle.compile_timeline.specs.Batches.{batch, queues}
use Rattle.compile_timeline.specs.Parts.{Waits, Does, Signals, parts}
use Rattle.compile_timeline.specs.declared.step.Step.{Step}
use Rattle.compile_timeline.specs.declared.step.Step.TheVariants.{Item, Need}

abbrev x : programs.Item
x = Global (record { src_stages = record { 0 = 0 }; src_accesses = record { 0 = 0 }; dst_stages = record { 0 = 0 }; dst_accesses = record { 0 = 0 } })

abbrev wait : ℕ → ℕ → WaitFor
wait queue value = record { queue = queue; value = value; stages = record { 0 = all_commands } }

abbrev signal : ℕ → Signal
signal value = record { value = value; stages = record { 0 = all_commands } }

-- queue 1 waits for step 1 first: that stands for the earlier step 0, so the second wait is left out
abbrev late : List Step
late = Item 0 x ∷ Item 0 x ∷ Need 1 1 ∷ Item 1 x ∷ Need 1 0 ∷ Item 1 x ∷ []

left_out : parts late 2 1 ≡ Waits (wait 0 1) ∷ Does x ∷ Does x ∷ Signals (signal 1) ∷ []
left_out = refl

-- no wait is for step 0, so the only signal is that at the end
end_alone : parts late 2 0 ≡ Does x ∷ Does x ∷ Signals (signal 1) ∷ []
end_alone = refl

-- two needs before one item: the wait is for the latest step
abbrev both : List Step
both = Item 0 x ∷ Item 0 x ∷ Item 0 x ∷ Need 1 1 ∷ Need 1 0 ∷ Item 1 x ∷ []

latest_kept : parts both 2 1 ≡ Waits (wait 0 1) ∷ Does x ∷ Signals (signal 1) ∷ []
latest_kept = refl

signal_after_it : parts both 2 0 ≡ Does x ∷ Does x ∷ Signals (signal 1) ∷ Does x ∷ Signals (signal 2) ∷ []
signal_after_it = refl

-- queue 2 waits for both others, and then for the first again; the needs stand in another order than the queues
abbrev three : List Step
three = Item 0 x ∷ Item 1 x ∷ Need 2 1 ∷ Need 2 0 ∷ Item 2 x ∷ Item 0 x ∷ Need 2 5 ∷ Item 2 x ∷ Item 0 x ∷ []

in_queue_order : parts three 3 2 ≡ Waits (wait 0 1) ∷ Waits (wait 1 1) ∷ Does x ∷ Waits (wait 0 2) ∷ Does x ∷ Signals (signal 1) ∷ []
in_queue_order = refl

-- a batch begins before each run of waits behind an item and after each signal; values count on each queue
submitted : queues three (Graphics ∷ Compute ∷ Transfer ∷ [])
    ≡ record { family = Graphics; batches = batch [] (x ∷ []) (Some (signal 1)) ∷ batch [] (x ∷ []) (Some (signal 2)) ∷ batch [] (x ∷ []) (Some (signal 3)) ∷ [] }
    ∷ record { family = Compute; batches = batch [] (x ∷ []) (Some (signal 1)) ∷ [] }
    ∷ record { family = Transfer; batches = batch (wait 0 1 ∷ wait 1 1 ∷ []) (x ∷ []) None ∷ batch (wait 0 2 ∷ []) (x ∷ []) (Some (signal 1)) ∷ [] }
    ∷ []
submitted = refl

-- a need without a later item is for nothing, and a queue without items has no batch
abbrev idle : List Step
idle = Item 0 x ∷ Item 0 x ∷ Need 1 0 ∷ []

nothing_to_do : queues idle (Graphics ∷ Compute ∷ [])
    ≡ record { family = Graphics; batches = batch [] (x ∷ x ∷ []) (Some (signal 1)) ∷ [] } ∷ record { family = Compute; batches = [] } ∷ []
nothing_to_do = refl
