-- The agents of a queue, and the host: who holds lines of memory.
use Rattle.std.specs.Prelude.{ℕ, List, [], ◌∷◌, ◌*◌, ◌&&◌, if◌then◌else◌}
use Rattle.std.specs.Int.RustNames.{bit_or}
use Rattle.vk.specs.Accesses.{color_attachment_read, color_attachment_write, transfer_read, transfer_write, host_read, shader_sampled_read, shader_storage_read, shader_storage_write, expand_accesses}
use Rattle.vk.specs.Sets.{has}
use Rattle.vk.specs.Stages.{color_attachment_output, compute_shader, host, copy, clear, expand}

-- an agent makes one kind of access in one stage
pub record Agent : Type 0 where
  pub stage : ℕ
  pub access : ℕ

-- in the order of their numbers; the host is the last
abbrev pub agent_table : List Agent
agent_table =
    record { stage = compute_shader; access = shader_sampled_read }
    ∷ record { stage = compute_shader; access = shader_storage_read }
    ∷ record { stage = compute_shader; access = shader_storage_write }
    ∷ record { stage = color_attachment_output; access = color_attachment_read }
    ∷ record { stage = color_attachment_output; access = color_attachment_write }
    ∷ record { stage = copy; access = transfer_read }
    ∷ record { stage = copy; access = transfer_write }
    ∷ record { stage = clear; access = transfer_write }
    ∷ record { stage = host; access = host_read }
    ∷ []

-- a bit for each agent whose stage and access are there, the first of the rows having this one
abbrev pub agents_from : ℕ → ℕ → ℕ → List Agent → ℕ → ℕ
agents_from stages accesses bit [] found = found
agents_from stages accesses bit (agent ∷ rows) found =
    agents_from stages accesses (2 * bit) rows (bit_or found (if has stages agent.stage && has accesses agent.access then bit else 0))

-- bit k stands for agent k
abbrev pub agents : ℕ → ℕ → ℕ
agents stages accesses = agents_from (expand stages) (expand_accesses accesses) 1 agent_table 0

-- the last row's bit: the agents of each queue are before it
abbrev pub host_agent : ℕ
host_agent = 256
