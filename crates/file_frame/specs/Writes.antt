-- Entries of a pass's `writes`: either `new` or `change`.
use Rattle.std.specs.Prelude.{ℕ, List, ◌||◌, Bool, true, false, not, is_some, [], ◌∷◌, Ok, if◌then◌else◌, codes}
use Rattle.file_json.specs.Parts.{Reader, object_at, member_at, others_at, members_in}
use Rattle.file_json.specs.Reading.{◌>>=◌}
use Rattle.frame.specs.declared.frame.Spot.{Spot}
use Rattle.frame.specs.declared.frame.Write.{Write}
use Rattle.serde_json.specs.Data.{Data, object}
use Rattle.serde_json.specs.Find.{get}
use Rattle.file_frame.specs.Spots.{spot_at, spot_data, FitsSpot}

unfoldable pub new_at : ℕ → Reader (Write Spot)
new_at format at d = do
  what ← member_at (spot_at format) (codes "new") at d
  end ← others_at (codes "new" ∷ []) at d
  Ok (record { what = what; fresh = true })

unfoldable pub change_at : ℕ → Reader (Write Spot)
change_at format at d = do
  what ← member_at (spot_at format) (codes "change") at d
  end ← others_at (codes "change" ∷ []) at d
  Ok (record { what = what; fresh = false })

-- with both members it is of new contents, and `change` is unknown; with neither, `new` is absent
abbrev pub is_new : Data → Bool
is_new d = is_some (get (codes "new") d) || not (is_some (get (codes "change") d))

unfoldable pub write_at : ℕ → Reader (Write Spot)
write_at format at d = object_at at d >>= λ start. if is_new d then new_at format at d else change_at format at d

abbrev pub write_word : Bool → List ℕ
write_word true = codes "new"
write_word false = codes "change"

abbrev pub write_data : Write Spot → Data
write_data write = object (members_in ((write_word write.fresh, spot_data write.what) ∷ []))

-- what the format says of an entry
abbrev pub FitsWrite : Write Spot → Type 0
FitsWrite write = FitsSpot write.what
