-- In which stage an access is made: that of its agent.
use Rattle.std.specs.Prelude.{◌≡◌, ◌⊎◌, ℕ, ◌*◌, ◌^◌, ◌==◌, List, [], ◌∷◌, Option, Some, None, if◌then◌else◌}
use Rattle.vk.specs.Agents.{Agent, agent_table}
use Rattle.check_access.specs.declared.access.Agent as by
use Rattle.check_access.specs.declared.access.Agent.TheVariants as agent
use Rattle.check_access.specs.declared.access.AccessKind.{AccessKind}
use Rattle.check_access.specs.declared.access.AccessKind.TheVariants.{Load, Store, Transition, Discard, Release, Acquire}

-- of the rows of the table, the first of them having this bit
abbrev pub stage_from : ℕ → ℕ → List Agent → ℕ
stage_from bit first [] = 0
stage_from bit first (row ∷ rows) = if bit == first then row.stage else stage_from bit (2 * first) rows

-- the stage of the agent with a bit
abbrev pub bit_stage : ℕ → ℕ
bit_stage bit = stage_from bit 1 agent_table

-- the host is in no stage of a queue
abbrev pub stage_by : by.Agent → Option ℕ
stage_by (agent.Of queue bit) = Some (bit_stage bit)
stage_by agent.Host = None

-- what barriers do is in no stage
abbrev pub stage_of : AccessKind → Option ℕ
stage_of (Load agent layout) = stage_by agent
stage_of (Store agent layout) = stage_by agent
stage_of (Transition layouts) = None
stage_of (Discard layout) = None
stage_of (Release handover) = None
stage_of (Acquire handover) = None

-- one stage, or none
abbrev pub IsStage : ℕ → Type 0
IsStage s = (s ≡ 0) ⊎ ((bit : ℕ) × (s ≡ 2 ^ bit))
