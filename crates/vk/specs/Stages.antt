-- Pipeline stages, with their bits in Vulkan. CLEAR is of every family: this profile files fills of buffers under it.
use Rattle.std.specs.Prelude.{ℕ, List, [], ◌∷◌, map, codes, if◌then◌else◌}
use Rattle.std.specs.Int.RustNames.{bit_or}
use Rattle.bitflags.specs.Sets as flags
use Rattle.vk.specs.Sets.{has, union_over}

abbrev pub color_attachment_output : ℕ
color_attachment_output = 0x400

abbrev pub compute_shader : ℕ
compute_shader = 0x800

abbrev pub all_transfer : ℕ
all_transfer = 0x1000

abbrev pub host : ℕ
host = 0x4000

abbrev pub all_commands : ℕ
all_commands = 0x10000

abbrev pub copy : ℕ
copy = 0x100000000

abbrev pub clear : ℕ
clear = 0x800000000

-- the numbers of the families: graphics 0, compute 1, transfer 2
abbrev pub every_family : List ℕ
every_family = 0 ∷ 1 ∷ 2 ∷ []

-- a stage, the stages that it stands for, and the families whose queues have it
pub record Stage : Type 0 where
  pub name : List ℕ
  pub bit : ℕ
  pub stands_for : ℕ
  pub families : List ℕ

-- in the order of their bits
abbrev pub stages : List Stage
stages =
    record { name = codes "COLOR_ATTACHMENT_OUTPUT"; bit = color_attachment_output; stands_for = color_attachment_output; families = 0 ∷ [] }
    ∷ record { name = codes "COMPUTE_SHADER"; bit = compute_shader; stands_for = compute_shader; families = 0 ∷ 1 ∷ [] }
    ∷ record { name = codes "ALL_TRANSFER"; bit = all_transfer; stands_for = bit_or copy clear; families = every_family }
    ∷ record { name = codes "HOST"; bit = host; stands_for = host; families = every_family }
    ∷ record { name = codes "ALL_COMMANDS"; bit = all_commands; stands_for = bit_or (bit_or (bit_or color_attachment_output compute_shader) copy) clear; families = every_family }
    ∷ record { name = codes "COPY"; bit = copy; stands_for = copy; families = every_family }
    ∷ record { name = codes "CLEAR"; bit = clear; stands_for = clear; families = every_family }
    ∷ []

abbrev pub stage_names : List flags.Row
stage_names = map (λ stage. (stage.name, stage.bit)) stages

-- what a stage adds where it is in the set
abbrev pub stage_part : ℕ → Stage → ℕ
stage_part set stage = if has set stage.bit then stage.stands_for else 0

-- the stages that those of the set stand for
abbrev pub expand : ℕ → ℕ
expand set = union_over (stage_part set) stages
