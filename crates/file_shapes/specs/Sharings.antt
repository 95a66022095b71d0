-- Whether queue families share a resource: `sharing`, in format 2 alone.
use Rattle.std.specs.Prelude.{◌≡◌, refl, ℕ, ◌==◌, List, Option, Some, None, Ok, unwrap_or, if◌then◌else◌, codes, ⊤}
use Rattle.std.specs.Str.{bytes_eq}
use Rattle.vk.specs.declared.sharing.Sharing.{Sharing}
use Rattle.vk.specs.declared.sharing.Sharing.TheVariants.{Exclusive, Concurrent}
use Rattle.file_json.specs.Leaves.{text_at}
use Rattle.file_json.specs.Parts.{Reader, optional_at}
use Rattle.file_json.specs.Reading.{◌>>=◌}

abbrev pub sharing_of : List ℕ → Option Sharing
sharing_of s =
    if bytes_eq s (codes "exclusive") then Some Exclusive else
    if bytes_eq s (codes "concurrent") then Some Concurrent else
    None

abbrev pub sharing_text : Sharing → List ℕ
sharing_text Exclusive = codes "exclusive"
sharing_text Concurrent = codes "concurrent"

pub sharing_again : (sharing : Sharing) → ⊤ → sharing_of (sharing_text sharing) ≡ Some sharing
sharing_again Exclusive fits = refl
sharing_again Concurrent fits = refl

abbrev pub stated_sharing_at : Reader Sharing
stated_sharing_at at d = optional_at (text_at sharing_of) (codes "sharing") at d >>= λ sharing. Ok (unwrap_or sharing Exclusive)

-- in a file of this format
abbrev pub sharing_at : ℕ → Reader Sharing
sharing_at format at d = if format == 1 then Ok Exclusive else stated_sharing_at at d
