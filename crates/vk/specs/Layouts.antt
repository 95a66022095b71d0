-- Layouts of images by name and number.
use Rattle.std.specs.Prelude.{ℕ, List, [], ◌∷◌, codes, Bool, true, false, Option}
use Rattle.std.specs.List.{find}
use Rattle.std.specs.Str.{bytes_eq}
use Rattle.vk.specs.declared.layout.Layout.{Layout}
use Rattle.vk.specs.declared.layout.Layout.TheVariants.{Undefined, General, ColorAttachment, ShaderReadOnly, TransferSrc, TransferDst}

abbrev pub layout_name : Layout → List ℕ
layout_name Undefined = codes "UNDEFINED"
layout_name General = codes "GENERAL"
layout_name ColorAttachment = codes "COLOR_ATTACHMENT_OPTIMAL"
layout_name ShaderReadOnly = codes "SHADER_READ_ONLY_OPTIMAL"
layout_name TransferSrc = codes "TRANSFER_SRC_OPTIMAL"
layout_name TransferDst = codes "TRANSFER_DST_OPTIMAL"

abbrev pub is_undefined : Layout → Bool
is_undefined Undefined = true
is_undefined layout = false

abbrev pub layout_number : Layout → ℕ
layout_number Undefined = 0
layout_number General = 1
layout_number ColorAttachment = 2
layout_number ShaderReadOnly = 5
layout_number TransferSrc = 6
layout_number TransferDst = 7

abbrev pub layouts : List Layout
layouts = Undefined ∷ General ∷ ColorAttachment ∷ ShaderReadOnly ∷ TransferSrc ∷ TransferDst ∷ []

-- the layout of a name
abbrev pub layout_of : List ℕ → Option Layout
layout_of name = find (λ layout. bytes_eq (layout_name layout) name) layouts
