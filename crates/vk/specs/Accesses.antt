-- Memory accesses, with their bits in Vulkan.
use Rattle.std.specs.Prelude.{ℕ, List, [], ◌∷◌, map, codes, if◌then◌else◌}
use Rattle.std.specs.Int.RustNames.{bit_or}
use Rattle.bitflags.specs.Sets as flags
use Rattle.vk.specs.Sets.{has, union_over}
use Rattle.vk.specs.Stages.{color_attachment_output, compute_shader, host, copy, clear}

abbrev pub shader_read : ℕ
shader_read = 0x20

abbrev pub shader_write : ℕ
shader_write = 0x40

abbrev pub color_attachment_read : ℕ
color_attachment_read = 0x80

abbrev pub color_attachment_write : ℕ
color_attachment_write = 0x100

abbrev pub transfer_read : ℕ
transfer_read = 0x800

abbrev pub transfer_write : ℕ
transfer_write = 0x1000

abbrev pub host_read : ℕ
host_read = 0x2000

abbrev pub memory_read : ℕ
memory_read = 0x8000

abbrev pub memory_write : ℕ
memory_write = 0x10000

abbrev pub shader_sampled_read : ℕ
shader_sampled_read = 0x100000000

abbrev pub shader_storage_read : ℕ
shader_storage_read = 0x200000000

abbrev pub shader_storage_write : ℕ
shader_storage_write = 0x400000000

abbrev pub both_shader_reads : ℕ
both_shader_reads = bit_or shader_sampled_read shader_storage_read

abbrev pub every_read : ℕ
every_read = bit_or (bit_or (bit_or both_shader_reads color_attachment_read) transfer_read) host_read

abbrev pub every_write : ℕ
every_write = bit_or (bit_or shader_storage_write color_attachment_write) transfer_write

abbrev pub every_stage : ℕ
every_stage = bit_or (bit_or (bit_or (bit_or color_attachment_output compute_shader) host) copy) clear

-- an access, the accesses that it stands for, and the stages that support it
pub record Access : Type 0 where
  pub name : List ℕ
  pub bit : ℕ
  pub stands_for : ℕ
  pub stages : ℕ

-- in the order of their bits
abbrev pub accesses : List Access
accesses =
    record { name = codes "SHADER_READ"; bit = shader_read; stands_for = both_shader_reads; stages = compute_shader }
    ∷ record { name = codes "SHADER_WRITE"; bit = shader_write; stands_for = shader_storage_write; stages = compute_shader }
    ∷ record { name = codes "COLOR_ATTACHMENT_READ"; bit = color_attachment_read; stands_for = color_attachment_read; stages = color_attachment_output }
    ∷ record { name = codes "COLOR_ATTACHMENT_WRITE"; bit = color_attachment_write; stands_for = color_attachment_write; stages = color_attachment_output }
    ∷ record { name = codes "TRANSFER_READ"; bit = transfer_read; stands_for = transfer_read; stages = copy }
    ∷ record { name = codes "TRANSFER_WRITE"; bit = transfer_write; stands_for = transfer_write; stages = bit_or copy clear }
    ∷ record { name = codes "HOST_READ"; bit = host_read; stands_for = host_read; stages = host }
    ∷ record { name = codes "MEMORY_READ"; bit = memory_read; stands_for = every_read; stages = every_stage }
    ∷ record { name = codes "MEMORY_WRITE"; bit = memory_write; stands_for = every_write; stages = every_stage }
    ∷ record { name = codes "SHADER_SAMPLED_READ"; bit = shader_sampled_read; stands_for = shader_sampled_read; stages = compute_shader }
    ∷ record { name = codes "SHADER_STORAGE_READ"; bit = shader_storage_read; stands_for = shader_storage_read; stages = compute_shader }
    ∷ record { name = codes "SHADER_STORAGE_WRITE"; bit = shader_storage_write; stands_for = shader_storage_write; stages = compute_shader }
    ∷ []

abbrev pub access_names : List flags.Row
access_names = map (λ access. (access.name, access.bit)) accesses

-- what an access adds where it is in the set
abbrev pub access_part : ℕ → Access → ℕ
access_part set access = if has set access.bit then access.stands_for else 0

-- the accesses that those of the set stand for
abbrev pub expand_accesses : ℕ → ℕ
expand_accesses set = union_over (access_part set) accesses
