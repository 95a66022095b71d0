-- Pipeline stages with those that a pass's own shaders work in, and their order in a pipeline.
use Rattle.std.specs.Prelude.{ℕ, List, [], ◌∷◌, if◌then◌else◌}
use Rattle.std.specs.Int.RustNames.{bit_or}
use Rattle.vk.specs.Sets.{meets, union_over}
use Rattle.vk.specs.Stages.{color_attachment_output, compute_shader, all_transfer, host, all_commands, copy, clear}

abbrev pub draw_indirect : ℕ
draw_indirect = 0x2

abbrev pub vertex_input : ℕ
vertex_input = 0x4

abbrev pub vertex_shader : ℕ
vertex_shader = 0x8

abbrev pub fragment_shader : ℕ
fragment_shader = 0x80

abbrev pub early_fragment_tests : ℕ
early_fragment_tests = 0x100

abbrev pub late_fragment_tests : ℕ
late_fragment_tests = 0x200

abbrev pub all_graphics : ℕ
all_graphics = 0x8000

abbrev pub resolve : ℕ
resolve = 0x200000000

abbrev pub blit : ℕ
blit = 0x400000000

abbrev pub index_input : ℕ
index_input = 0x1000000000

abbrev pub vertex_attribute_input : ℕ
vertex_attribute_input = 0x2000000000

abbrev pub pre_rasterization_shaders : ℕ
pre_rasterization_shaders = 0x4000000000

-- PIPELINES

abbrev pub graphics : List ℕ
graphics = draw_indirect ∷ index_input ∷ vertex_attribute_input ∷ vertex_shader ∷ early_fragment_tests ∷ fragment_shader ∷ late_fragment_tests ∷ color_attachment_output ∷ []

abbrev pub compute : List ℕ
compute = draw_indirect ∷ compute_shader ∷ []

abbrev pub all_of : List ℕ → ℕ
all_of stages = union_over (λ stage. stage) stages

-- those stages of a pipeline that are in the set or come before one that is
abbrev pub earlier_in : ℕ → List ℕ → ℕ
earlier_in set [] = 0
earlier_in set (stage ∷ rest) = bit_or (if meets set (all_of (stage ∷ rest)) then stage else 0) (earlier_in set rest)

-- those that are in the set or come after one that is, or after one of the stages before them
abbrev pub later_in : ℕ → ℕ → List ℕ → ℕ
later_in set passed [] = 0
later_in set passed (stage ∷ rest) = bit_or (if meets set (bit_or passed stage) then stage else 0) (later_in set (bit_or passed stage) rest)

abbrev pub earlier : ℕ → ℕ
earlier set = bit_or set (bit_or (earlier_in set graphics) (earlier_in set compute))

abbrev pub later : ℕ → ℕ
later set = bit_or set (bit_or (later_in set 0 graphics) (later_in set 0 compute))

-- WORDS OF MASKS

pub record Word : Type 0 where
  pub bit : ℕ
  pub stands_for : ℕ

abbrev pub single : ℕ → Word
single bit = record { bit = bit; stands_for = bit }

-- every stage that stands for itself but HOST
abbrev pub every_command : ℕ
every_command = all_of (color_attachment_output ∷ compute_shader ∷ copy ∷ resolve ∷ blit ∷ clear ∷ graphics)

-- in the order of their bits
abbrev pub words : List Word
words =
    single draw_indirect
    ∷ record { bit = vertex_input; stands_for = bit_or index_input vertex_attribute_input }
    ∷ single vertex_shader
    ∷ single fragment_shader
    ∷ single early_fragment_tests
    ∷ single late_fragment_tests
    ∷ single color_attachment_output
    ∷ single compute_shader
    ∷ record { bit = all_transfer; stands_for = all_of (copy ∷ resolve ∷ blit ∷ clear ∷ []) }
    ∷ single host
    ∷ record { bit = all_graphics; stands_for = all_of graphics }
    ∷ record { bit = all_commands; stands_for = every_command }
    ∷ single copy
    ∷ single resolve
    ∷ single blit
    ∷ single clear
    ∷ single index_input
    ∷ single vertex_attribute_input
    ∷ record { bit = pre_rasterization_shaders; stands_for = vertex_shader }
    ∷ []
