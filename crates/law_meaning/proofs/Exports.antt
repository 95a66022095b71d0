-- Each exported unit has after the kept passes what it has after all passes.
use Rattle.std.proofs.Common.{◌≡◌, ℕ, ◌<◌, ◌==◌, true, List, length, map, get_or, Option, Some, None, replicate, unwrap_or, sym, ap, ◌∙◌, subst, eqb-true, Bool, false, []}
use Rattle.std.proofs.lemmas.Bool.{and_parts}
use Rattle.std.proofs.lemmas.List.{length-map, length-replicate, get_or-map}
use Rattle.std.proofs.lemmas.List.Elements.{Contains-get_or}
use Rattle.base.specs.Applied.{bytes_at}
use Rattle.base.specs.Shapes.{bytes_of, shape_at, is_buffer}
use Rattle.base.specs.Wholes.{is_whole}
use Rattle.base.specs.declared.op.Op.{Op}
use Rattle.base.specs.declared.shape.Shape.{Shape}
use Rattle.base.specs.declared.shape.Shape.TheVariants.{Buffer}
use Rattle.vk.specs.declared.sharing.Sharing.TheVariants.{Exclusive}
use Rattle.law_meaning.proofs.Culling.{SideBySide, mattering, all_run}
use Rattle.law_meaning.proofs.Pictures.{has_meaning}
use Rattle.law_meaning.proofs.States.{AreSized}
use Rattle.law_meaning.specs.Kept.{kept_bytes}
use Rattle.law_meaning.specs.Laws.{AreAsLong, KeptSuffice}
use Rattle.frame.specs.Valid.{IsValid, shapes_in}
use Rattle.frame.specs.Numbered.{NumberedFrame}
use Rattle.frame.specs.Units.{Unit as FrameUnit}
use Rattle.frame.specs.Uses.{import_fits}
use Rattle.frame_meaning.specs.Meaning.{first_bytes, all_bytes}
use Rattle.kernel.specs.Anew.{IgnoresOld}
use Rattle.frame_cull.specs.Culled.{AreKept, makes_export}
use Rattle.frame_cull.specs.Versions.{all_versions, latest_maker}

abbrev pub no_unit : FrameUnit
no_unit = record { shape = Buffer 0; sharing = Exclusive; imported = None }

module _ (frame : NumberedFrame) (good : IsValid frame) where
  pub unit_shape : (u : ℕ) → u < length frame.units → shape_at (shapes_in frame) u ≡ (get_or frame.units u no_unit).shape
  unit_shape u lt = get_or-map (λ (x : FrameUnit). x.shape) frame.units u no_unit (Buffer 0) lt

  pub unit_bytes : (u : ℕ) → u < length frame.units → bytes_at (map first_bytes frame.units) u ≡ first_bytes (get_or frame.units u no_unit)
  unit_bytes u lt = get_or-map first_bytes frame.units u no_unit [] lt

  first_long : (unit : FrameUnit) → import_fits unit.shape unit.imported ≡ true → length (first_bytes unit) ≡ bytes_of unit.shape
  first_long unit fits = go unit.imported fits
    where
      go : (o : Option (List ℕ)) → import_fits unit.shape o ≡ true → length (unwrap_or o (replicate (bytes_of unit.shape) 0)) ≡ bytes_of unit.shape
      go None e = length-replicate (bytes_of unit.shape) 0
      go (Some bytes) e = eqb-true (length bytes) (bytes_of unit.shape) (and_parts (is_buffer unit.shape) (length bytes == bytes_of unit.shape) e).1

  pub first_sized : AreSized (shapes_in frame) (map first_bytes frame.units)
  first_sized = record {
    count = length-map frame.units first_bytes ∙ sym (length-map frame.units (λ u. u.shape));
    sized = λ u lt. sized u (subst (λ n. u < n) (length-map frame.units (λ u. u.shape)) lt);
  }
    where
      sized : (u : ℕ) → u < length frame.units → length (bytes_at (map first_bytes frame.units) u) ≡ bytes_of (shape_at (shapes_in frame) u)
      sized u lt = ap length (unit_bytes u lt) ∙ first_long (get_or frame.units u no_unit) (good.imports_fit u no_unit lt) ∙ ap bytes_of (sym (unit_shape u lt))

  module _ (ignores : (op : Op Shape) → is_whole op ≡ true → IgnoresOld op) (kept : List Bool) (are : AreKept frame kept) where
    side : SideBySide ignores frame kept good are (length frame.passes) (all_bytes frame) (kept_bytes frame kept)
    side = all_run ignores frame kept good are (map first_bytes frame.units) first_sized

    pub kept_sized : AreSized (shapes_in frame) (kept_bytes frame kept)
    kept_sized = side.kept_sized

    pub all_long : AreAsLong frame
    all_long = λ unit lt. side.all_sized.sized unit (subst (λ n. unit < n) (sym (length-map frame.units (λ u. u.shape))) lt)

    pub kept_suffice : KeptSuffice frame kept
    kept_suffice = λ k d lt. has_meaning frame good (get_or frame.exports k d) (good.exports_there k d lt) ∙ ap (λ bytes. Some bytes) (side.alike (get_or frame.exports k d) (fine k d lt))
      where
        fine : (k d : ℕ) → k < length frame.exports → (m : ℕ) → latest_maker (all_versions frame (get_or frame.exports k d)) ≡ Some m → get_or kept m false ≡ true
        fine k d lt m e = mattering ignores frame kept good are m (side.makers (get_or frame.exports k d) m e) (makes_export (record { unit = get_or frame.exports k d; exported = Contains-get_or frame.exports k d lt; last = e }))
