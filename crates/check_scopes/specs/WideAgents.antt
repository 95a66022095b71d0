-- The agents of a queue with those that a pass's own shaders work by: behind the old rows stand 21 new ones.
use Rattle.std.specs.Prelude.{ℕ, List, [], ◌∷◌, ◌++◌}
use Rattle.vk.specs.Accesses.{shader_read, shader_write, color_attachment_read, color_attachment_write, transfer_read, transfer_write, host_read, memory_read, memory_write, shader_sampled_read, shader_storage_read, shader_storage_write, both_shader_reads}
use Rattle.vk.specs.Agents.{Agent, agent_table, agents_from}
use Rattle.vk.specs.Sets.{union_over}
use Rattle.vk.specs.Stages.{compute_shader}
use Rattle.check_scopes.specs.Scopes.{part}
use Rattle.check_scopes.specs.Words.{Word, single, all_of, draw_indirect, index_input, vertex_attribute_input, vertex_shader, fragment_shader, early_fragment_tests, late_fragment_tests, blit, resolve}

abbrev pub indirect_command_read : ℕ
indirect_command_read = 0x1

abbrev pub index_read : ℕ
index_read = 0x2

abbrev pub vertex_attribute_read : ℕ
vertex_attribute_read = 0x4

abbrev pub uniform_read : ℕ
uniform_read = 0x8

abbrev pub input_attachment_read : ℕ
input_attachment_read = 0x10

abbrev pub depth_stencil_attachment_read : ℕ
depth_stencil_attachment_read = 0x200

abbrev pub depth_stencil_attachment_write : ℕ
depth_stencil_attachment_write = 0x400

abbrev pub host_write : ℕ
host_write = 0x4000

abbrev pub every_reading : ℕ
every_reading = all_of (indirect_command_read ∷ index_read ∷ vertex_attribute_read ∷ uniform_read ∷ input_attachment_read ∷ color_attachment_read ∷ depth_stencil_attachment_read ∷ transfer_read ∷ host_read ∷ shader_sampled_read ∷ shader_storage_read ∷ [])

abbrev pub every_writing : ℕ
every_writing = all_of (color_attachment_write ∷ depth_stencil_attachment_write ∷ transfer_write ∷ host_write ∷ shader_storage_write ∷ [])

-- in the order of their bits
abbrev pub access_words : List Word
access_words =
    single indirect_command_read
    ∷ single index_read
    ∷ single vertex_attribute_read
    ∷ single uniform_read
    ∷ single input_attachment_read
    ∷ record { bit = shader_read; stands_for = both_shader_reads }
    ∷ record { bit = shader_write; stands_for = shader_storage_write }
    ∷ single color_attachment_read
    ∷ single color_attachment_write
    ∷ single depth_stencil_attachment_read
    ∷ single depth_stencil_attachment_write
    ∷ single transfer_read
    ∷ single transfer_write
    ∷ single host_read
    ∷ single host_write
    ∷ record { bit = memory_read; stands_for = every_reading }
    ∷ record { bit = memory_write; stands_for = every_writing }
    ∷ single shader_sampled_read
    ∷ single shader_storage_read
    ∷ single shader_storage_write
    ∷ []

abbrev pub expanded_accesses : ℕ → ℕ
expanded_accesses mask = union_over (part (λ set. set) mask) access_words

abbrev pub of : ℕ → ℕ → Agent
of stage access = record { stage = stage; access = access }

-- bits 9 to 29
abbrev pub new_agents : List Agent
new_agents =
    of draw_indirect indirect_command_read
    ∷ of index_input index_read
    ∷ of vertex_attribute_input vertex_attribute_read
    ∷ of vertex_shader uniform_read
    ∷ of vertex_shader shader_sampled_read
    ∷ of vertex_shader shader_storage_read
    ∷ of vertex_shader shader_storage_write
    ∷ of fragment_shader uniform_read
    ∷ of fragment_shader input_attachment_read
    ∷ of fragment_shader shader_sampled_read
    ∷ of fragment_shader shader_storage_read
    ∷ of fragment_shader shader_storage_write
    ∷ of early_fragment_tests depth_stencil_attachment_read
    ∷ of early_fragment_tests depth_stencil_attachment_write
    ∷ of late_fragment_tests depth_stencil_attachment_read
    ∷ of late_fragment_tests depth_stencil_attachment_write
    ∷ of compute_shader uniform_read
    ∷ of blit transfer_read
    ∷ of blit transfer_write
    ∷ of resolve transfer_read
    ∷ of resolve transfer_write
    ∷ []

-- a bit for each agent whose stage is in a set of stages that stand for themselves, and whose access is in the mask
abbrev pub agents_in : ℕ → ℕ → ℕ
agents_in stages accesses = agents_from stages (expanded_accesses accesses) 1 (agent_table ++ new_agents) 0
