-- Masks of programs without actions.
use Rattle.std.specs.Prelude.{◌≡◌, ◌⊎◌, ℕ, ◌<◌, ◌^◌, [], ◌∷◌, true}
use Rattle.vk.specs.Accesses.{shader_read, shader_write, color_attachment_read, color_attachment_write, transfer_read, transfer_write, host_read, memory_read, memory_write, shader_sampled_read, shader_storage_read, shader_storage_write}
use Rattle.vk.specs.Agents.{agents}
use Rattle.vk.specs.Sets.{has, meets}
use Rattle.vk.specs.Stages.{color_attachment_output, compute_shader, all_transfer, host, all_commands, copy, clear, expand}
use Rattle.check_scopes.specs.Scopes.{waited_for, waiting, expanded}
use Rattle.check_scopes.specs.WideAgents.{agents_in}
use Rattle.check_scopes.specs.Words.{all_of, early_fragment_tests, late_fragment_tests}

-- the words of formats 1 and 2
abbrev pub old_words : ℕ
old_words = all_of (color_attachment_output ∷ compute_shader ∷ all_transfer ∷ host ∷ all_commands ∷ copy ∷ clear ∷ [])

abbrev pub IsOld : ℕ → Type 0
IsOld mask = has old_words mask ≡ true

-- the stages in which their commands work, and the host
abbrev pub IsOldStage : ℕ → Type 0
IsOldStage stage = (stage ≡ color_attachment_output) ⊎ ((stage ≡ compute_shader) ⊎ ((stage ≡ copy) ⊎ ((stage ≡ clear) ⊎ (stage ≡ host))))

-- what waits for one mask meets what another one waits for just where their stages meet
abbrev pub MeetsAlike : Type 0
MeetsAlike = (m n : ℕ) → IsOld m → IsOld n → meets (waiting m) (waited_for n) ≡ meets (expand m) (expand n)

abbrev pub WaitsAlike : Type 0
WaitsAlike = (s n : ℕ) → IsOldStage s → IsOld n → meets s (waited_for n) ≡ meets s (expand n)

abbrev pub LetsAlike : Type 0
LetsAlike = (m s : ℕ) → IsOld m → IsOldStage s → meets (waiting m) s ≡ meets (expand m) s

abbrev pub ExpandsAlike : Type 0
ExpandsAlike = (m n : ℕ) → IsOld m → IsOld n → meets (expanded m) (expanded n) ≡ meets (expand m) (expand n)

-- the access words of formats 1 and 2
abbrev pub old_access_words : ℕ
old_access_words = all_of (shader_read ∷ shader_write ∷ color_attachment_read ∷ color_attachment_write ∷ transfer_read ∷ transfer_write ∷ host_read ∷ memory_read ∷ memory_write ∷ shader_sampled_read ∷ shader_storage_read ∷ shader_storage_write ∷ [])

-- a set has the old stages that a mask stands for
abbrev pub HasStagesOf : ℕ → ℕ → Type 0
HasStagesOf set mask = (s : ℕ) → IsOldStage s → meets set s ≡ meets (expand mask) s

-- of the old agents, and the host, masks have the same ones
abbrev pub AgentsAlike : Type 0
AgentsAlike = (set mask accesses k : ℕ) → HasStagesOf set mask → has old_access_words accesses ≡ true → k < 9 → meets (agents_in set accesses) (2 ^ k) ≡ meets (agents mask accesses) (2 ^ k)

-- the stages of a mask, those that it waits for, and those that wait for it, have the old stages of the mask
abbrev pub ScopesHaveStages : Type 0
ScopesHaveStages = (mask : ℕ) → IsOld mask → HasStagesOf (expanded mask) mask × HasStagesOf (waited_for mask) mask × HasStagesOf (waiting mask) mask

-- of any mask: what waits for the late tests waits for the early ones, and what the early ones wait for the late ones wait for
abbrev pub TestsInOrder : Type 0
TestsInOrder = (mask : ℕ) → (meets (waited_for mask) late_fragment_tests ≡ true → meets (waited_for mask) early_fragment_tests ≡ true) × (meets (waiting mask) early_fragment_tests ≡ true → meets (waiting mask) late_fragment_tests ≡ true)
