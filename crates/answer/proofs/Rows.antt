-- Worked rows: what the definitions come to on written-out values.
use Rattle.std.proofs.Common.{◌≡◌, [], ◌∷◌, None, true, false, codes, refl}
use Rattle.std.specs.Fmt.{digits}
use Rattle.hex.proofs.OnLiterals.{hex_on_literals}
use Rattle.base.specs.Texels.{band, low_bytes}
use Rattle.base.specs.declared.op.Op.TheVariants.{FillBuffer}
use Rattle.base.specs.declared.shape.Family.TheVariants.{Graphics}
use Rattle.base.specs.declared.shape.Shape.TheVariants.{Buffer}
use Rattle.vk.specs.declared.sharing.Sharing.TheVariants.{Exclusive}
use Rattle.frame.specs.Numbered.{numbered}
use Rattle.frame.specs.declared.frame.Frame.{Frame}
use Rattle.frame.specs.declared.frame.Spot.{Spot}
use Rattle.frame_meaning.specs.Meaning.{all_bytes}
use Rattle.answer.specs.Internal.Stages.{bytes_in}
use Rattle.compile_file.specs.Exports.{exports_text}

whole : Spot
whole = record { name = codes "b"; layer = None }

-- one pass that fills one buffer
one_fill : Frame
one_fill = record {
  queues = record { name = codes "g"; family = Graphics } ∷ [];
  resources = record { name = codes "b"; shape = Buffer 16; layers = 1; import = None; sharing = Exclusive } ∷ [];
  passes = record { name = codes "p"; queue = codes "g"; reads = []; writes = record { what = whole; fresh = true } ∷ []; ops = FillBuffer whole 0 16 7 ∷ []; side_effect = false } ∷ [];
  exports = whole ∷ [];
}

one_fill_exported : exports_text one_fill (bytes_in one_fill (all_bytes (numbered one_fill))) ≡ codes "export b 16\n07000000070000000700000007000000\n"
unfolding one_fill whole band low_bytes hex_on_literals digits
one_fill_exported = refl
