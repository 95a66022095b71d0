-- Which stages make which accesses.
use Rattle.std.specs.Prelude.{ℕ, Bool, if◌then◌else◌}
use Rattle.vk.specs.Accesses.{Access, accesses}
use Rattle.vk.specs.Sets.{has, meets, union_over}
use Rattle.vk.specs.Stages.{expand}

abbrev pub supported_part : ℕ → Access → ℕ
supported_part stages access = if meets stages access.stages then access.bit else 0

-- the accesses that one of the stages supports
abbrev pub supported : ℕ → ℕ
supported stages = union_over (supported_part stages) accesses

-- each access is supported by a stage that those of the mask stand for
abbrev pub supports : ℕ → ℕ → Bool
supports stages accesses = has (supported (expand stages)) accesses
