-- Which item it is: the words under `item`.
use Rattle.std.specs.Prelude.{◌≡◌, refl, ℕ, List, Option, Some, None, if◌then◌else◌, codes, ⊤}
use Rattle.std.specs.Str.{bytes_eq}
use Rattle.file_program.specs.declared.item_kind.ItemKind.{ItemKind}
use Rattle.file_program.specs.declared.item_kind.ItemKind.TheVariants as kinds

abbrev pub item_kind_of : List ℕ → Option ItemKind
item_kind_of s =
    if bytes_eq s (codes "command") then Some kinds.Command else
    if bytes_eq s (codes "global") then Some kinds.Global else
    if bytes_eq s (codes "buffer") then Some kinds.Buffer else
    if bytes_eq s (codes "image") then Some kinds.Image else
    if bytes_eq s (codes "release") then Some kinds.Release else
    if bytes_eq s (codes "acquire") then Some kinds.Acquire else
    None

abbrev pub item_kind_text : ItemKind → List ℕ
item_kind_text kinds.Command = codes "command"
item_kind_text kinds.Global = codes "global"
item_kind_text kinds.Buffer = codes "buffer"
item_kind_text kinds.Image = codes "image"
item_kind_text kinds.Release = codes "release"
item_kind_text kinds.Acquire = codes "acquire"

pub item_kind_again : (kind : ItemKind) → ⊤ → item_kind_of (item_kind_text kind) ≡ Some kind
item_kind_again kinds.Command fits = refl
item_kind_again kinds.Global fits = refl
item_kind_again kinds.Buffer fits = refl
item_kind_again kinds.Image fits = refl
item_kind_again kinds.Release fits = refl
item_kind_again kinds.Acquire fits = refl
