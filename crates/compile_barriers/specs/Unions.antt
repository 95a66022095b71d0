-- What uses on one queue do together.
use Rattle.std.specs.Prelude.{ℕ, List, ◌==◌, not, Bool}
use Rattle.std.specs.List.{filter, list_any}
use Rattle.vk.specs.Sets.{union_over}
use Rattle.compile_groups.specs.declared.unit_use.Use.{Use}
use Rattle.compile_barriers.specs.declared.joint.Joint.{Joint}

abbrev pub on : ℕ → List Use → List Use
on q uses = filter (λ u. u.queue == q) uses

-- the union of their stages, of all their accesses, and of those that write
abbrev pub stages_on : List Use → ℕ → ℕ
stages_on uses q = union_over (λ u. u.stage.0) (on q uses)

abbrev pub accesses_on : List Use → ℕ → ℕ
accesses_on uses q = union_over (λ u. u.accesses.0) (on q uses)

abbrev pub writes_on : List Use → ℕ → ℕ
writes_on uses q = union_over (λ u. u.writes.0) (on q uses)

abbrev pub joint_on : List Use → ℕ → Joint
joint_on uses q = record { stages = record { 0 = stages_on uses q }; accesses = record { 0 = accesses_on uses q }; writes = record { 0 = writes_on uses q } }

-- one of them is on another queue
abbrev pub is_elsewhere : List Use → ℕ → Bool
is_elsewhere uses q = list_any (λ u. not (u.queue == q)) uses
