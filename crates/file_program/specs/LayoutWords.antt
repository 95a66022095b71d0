-- The words of layouts.
use Rattle.std.specs.Prelude.{◌≡◌, refl, Some, ⊤}
use Rattle.vk.specs.Layouts.{layout_name, layout_of}
use Rattle.vk.specs.declared.layout.Layout.{Layout}
use Rattle.vk.specs.declared.layout.Layout.TheVariants.{Undefined, General, ColorAttachment, ShaderReadOnly, TransferSrc, TransferDst}

pub layout_again : (layout : Layout) → ⊤ → layout_of (layout_name layout) ≡ Some layout
layout_again Undefined fits = refl
layout_again General fits = refl
layout_again ColorAttachment fits = refl
layout_again ShaderReadOnly fits = refl
layout_again TransferSrc fits = refl
layout_again TransferDst fits = refl
