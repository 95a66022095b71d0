-- The masks of a barrier: `src_stage`, `src_access`, `dst_stage`, `dst_access`.
use Rattle.std.specs.Prelude.{ℕ, List, [], ◌∷◌, Ok, codes}
use Rattle.vk.specs.declared.masks.Masks.{Masks}
use Rattle.file_json.specs.Leaves.{number_data}
use Rattle.file_json.specs.Parts.{Reader, member_at, members_in}
use Rattle.file_json.specs.Reading.{◌>>=◌}
use Rattle.serde_json.specs.Data.{Members, string, put}
use Rattle.file_program.specs.Masks.{stages_at, stages_data, accesses_at, accesses_data, FitsStages, FitsAccesses}

-- members of an object that has others too
unfoldable pub masks_at : Reader Masks
masks_at at d = do
  src_stages ← member_at stages_at (codes "src_stage") at d
  src_accesses ← member_at accesses_at (codes "src_access") at d
  dst_stages ← member_at stages_at (codes "dst_stage") at d
  dst_accesses ← member_at accesses_at (codes "dst_access") at d
  Ok (record { src_stages = src_stages; src_accesses = src_accesses; dst_stages = dst_stages; dst_accesses = dst_accesses })

-- as they are written
abbrev pub mask_members : Masks → Members
mask_members masks = members_in (
    (codes "dst_access", accesses_data masks.dst_accesses) ∷
    (codes "dst_stage", stages_data masks.dst_stages) ∷
    (codes "src_access", accesses_data masks.src_accesses) ∷
    (codes "src_stage", stages_data masks.src_stages) ∷
    [])

-- with the word of an item, and the number of its piece
abbrev pub piece_members : List ℕ → ℕ → Masks → Members
piece_members item piece masks = put (codes "piece") (number_data piece) (put (codes "item") (string item) (mask_members masks))

-- what the format says of a barrier's masks
pub record FitsMasks (masks : Masks) : Type 0 where
  pub src_stages : FitsStages masks.src_stages
  pub src_accesses : FitsAccesses masks.src_accesses
  pub dst_stages : FitsStages masks.dst_stages
  pub dst_accesses : FitsAccesses masks.dst_accesses
