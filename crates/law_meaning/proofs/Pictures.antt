-- What a valid frame exports has contents.
use Rattle.std.proofs.Common.{◌≡◌, ℕ, ◌||◌, true, Some, None, if◌then◌else◌, ap}
use Rattle.std.specs.List.{list_any}
use Rattle.base.specs.Applied.{bytes_at}
use Rattle.frame.specs.Valid.{IsValid, is_import, renews}
use Rattle.frame.specs.Numbered.{NumberedFrame}
use Rattle.frame_meaning.proofs.Exported.{all_renewed, or_more}
use Rattle.frame_meaning.specs.Meaning.{stores_to, meaning, all_bytes}

pub has_meaning : (frame : NumberedFrame) → IsValid frame → (unit : ℕ) → (is_import frame.units unit || list_any (renews unit) frame.passes) ≡ true → meaning frame unit ≡ Some (bytes_at (all_bytes frame) unit)
has_meaning frame good unit there =
    ap (λ b. if b then Some (bytes_at (all_bytes frame) unit) else None)
    (or_more (is_import frame.units unit) (list_any (renews unit) frame.passes) (list_any (stores_to unit) frame.passes) (all_renewed frame good unit) there)
