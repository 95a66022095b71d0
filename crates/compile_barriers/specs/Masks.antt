-- The masks of what stands round groups, on queue q. A and B are the uses before and after it.
use Rattle.std.specs.Prelude.{ℕ, List, if◌then◌else◌}
use Rattle.std.specs.Int.RustNames.{bit_or}
use Rattle.vk.specs.Accesses.{transfer_write, host_read}
use Rattle.vk.specs.Stages.{copy, host}
use Rattle.vk.specs.declared.masks.Masks.{Masks}
use Rattle.compile_groups.specs.declared.unit_use.Use.{Use}
use Rattle.compile_barriers.specs.Unions.{stages_on, accesses_on, writes_on, is_elsewhere}

abbrev pub masks : ℕ → ℕ → ℕ → ℕ → Masks
masks src_stages src_accesses dst_stages dst_accesses = record {
  src_stages = record { 0 = src_stages };
  src_accesses = record { 0 = src_accesses };
  dst_stages = record { 0 = dst_stages };
  dst_accesses = record { 0 = dst_accesses };
}

-- a barrier after A: what A wrote on q is there for all that B does on q. What A did on other queues is waited for, and the
-- barrier follows such a wait in B's stages.
abbrev pub barrier_masks : List Use → List Use → ℕ → Masks
barrier_masks A B q = masks (bit_or (stages_on A q) (if is_elsewhere A q then stages_on B q else 0)) (writes_on A q) (stages_on B q) (accesses_on B q)

-- a release after A: what A wrote on q is made available
abbrev pub release_masks : List Use → ℕ → Masks
release_masks A q = masks (stages_on A q) (writes_on A q) (stages_on A q) 0

-- an acquire before B, or a barrier out of UNDEFINED: nothing before it is made available
abbrev pub entry_masks : List Use → ℕ → Masks
entry_masks B q = masks (stages_on B q) 0 (stages_on B q) (accesses_on B q)

-- the barrier after the copy of an export: the host may read it
abbrev pub host_masks : Masks
host_masks = masks copy transfer_write host host_read

abbrev pub no_masks : Masks
no_masks = masks 0 0 0 0
