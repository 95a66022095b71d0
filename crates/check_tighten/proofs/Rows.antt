-- Worked rows.
use Rattle.std.proofs.Common.{◌≡◌, ◌+◌, ◌==◌, inl, inr, ℕ, true, false, [], ◌∷◌, None, refl, sym, ap}
use Rattle.base.proofs.Booleans.{clash}
use Rattle.base.specs.declared.shape.Family.TheVariants.{Graphics, Compute, Transfer}
use Rattle.vk.specs.Sets.{meets}
use Rattle.vk.specs.Stages.{expand, all_commands, all_transfer, color_attachment_output, compute_shader, copy, clear}
use Rattle.program.specs.declared.program.Program.{Program}
use Rattle.program.specs.declared.program.WaitFor.{WaitFor}
use Rattle.check_tighten.specs.Edits.{without_at}
use Rattle.check_tighten.specs.Own.{own_stages, without_stage}
use Rattle.check_tighten.specs.Standing.{WaitsStand}
use Rattle.check_tighten.specs.Tight.{NeededAt}
use Rattle.check_tighten.specs.Tightened.{InTurn, IsTightened}
use Rattle.check_tighten.proofs.Fitting.{meets_mask}

abbrev empty : Program
empty = record { memories = []; pieces = []; queues = []; readbacks = [] }

abbrev wait : ℕ → ℕ → ℕ → WaitFor
wait queue value set = record { queue = queue; value = value; stages = record { 0 = set } }

-- own stages: a queue of transfers copies and clears, one of computations has its shader besides, and no stage of the host is among all commands
transfers : own_stages Transfer all_commands ≡ copy + clear
transfers = refl

computations : own_stages Compute all_commands ≡ compute_shader + (copy + clear)
computations = refl

graphics : own_stages Graphics all_commands ≡ color_attachment_output + (compute_shader + (copy + clear))
graphics = refl

not_there : own_stages Transfer (compute_shader + copy) ≡ copy
not_there = refl

-- one of two stages is left out, and the only one: a mask of none is left, which breaks a rule
one_less : without_stage Transfer copy (wait 1 3 all_transfer) ≡ wait 1 3 clear
one_less = refl

last_less : without_stage Graphics copy (wait 1 3 copy) ≡ wait 1 3 0
last_less = refl

-- so a mask of all commands is not left, nor one with a stage that its queue lacks
whole_mask : NeededAt empty 0 0 0 (record { family = Transfer; batches = [] }) (record { waits = []; items = []; signal = None }) (wait 1 3 all_commands) → ⊥
whole_mask needed = clash (sym (ap (λ set. set == all_commands) needed.others))

strange_stage : NeededAt empty 0 0 0 (record { family = Compute; batches = [] }) (record { waits = []; items = []; signal = None }) (wait 1 3 (color_attachment_output + compute_shader)) → ⊥
strange_stage needed = clash (sym (ap (λ set. set == color_attachment_output + compute_shader) needed.others))

-- own stages meet alike what another mask of the family stands for
all_alike : meets (expand all_commands) (expand all_commands) ≡ meets (own_stages Transfer all_commands) (expand all_commands)
all_alike = meets_mask Transfer all_commands all_commands refl refl

shader_alike : meets (expand all_commands) compute_shader ≡ true
shader_alike = refl

-- a shader they would not meet, but none runs on that queue
shader_lost : meets (own_stages Transfer all_commands) compute_shader ≡ false
shader_lost = refl

-- entries are left out
second : without_at {X = ℕ} 1 (5 ∷ 6 ∷ 7 ∷ []) ≡ 5 ∷ 7 ∷ []
second = refl

none : without_at {X = ℕ} 3 (5 ∷ 6 ∷ 7 ∷ []) ≡ 5 ∷ 6 ∷ 7 ∷ []
none = refl

-- the second wait stands with fewer stages, and the first is left out
narrowed : WaitsStand (wait 0 1 all_commands ∷ wait 1 1 all_commands ∷ []) (wait 1 1 copy ∷ [])
narrowed = inr (inl (record { queue = refl; value = refl; some = refl; stages = inr refl }, tt))

-- a wait that was not there does not stand
invented : WaitsStand [] (wait 1 1 copy ∷ []) → ⊥
invented s = s

-- where there is no queue, one round changes nothing
nothing_left_out : IsTightened empty empty
nothing_left_out = (0, (refl, refl))

-- a round of three parts does them in turn
in_turn : InTurn (λ i program now. now ≡ program) 3 empty empty
in_turn = (empty, (empty, (empty, refl, refl), refl), refl)
