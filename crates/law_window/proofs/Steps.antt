-- From one frame of a window to the next.
use Rattle.std.proofs.Common.{◌≡◌, ℕ, ◌+◌, ◌<◌, ◌++◌, ◌||◌, List, [], ◌∷◌, length, map, true, Option, Some, None, unwrap_or, if◌then◌else◌, refl, sym, ap, ap₂, subst, ◌∙◌, arith}
use Rattle.std.specs.List.{list_any}
use Rattle.std.proofs.lemmas.List.{get_or-append-add, get_or_append_left, length-append}
use Rattle.base.specs.Applied.{bytes_at}
use Rattle.base.specs.Shapes.{bytes_of}
use Rattle.base.specs.declared.shape.Shape.{Shape}
use Rattle.frame.specs.Valid.{is_import}
use Rattle.frame.specs.Numbered.{NumberedFrame}
use Rattle.frame_meaning.specs.Meaning.{all_bytes, stores_to}
use Rattle.frame_meaning.specs.Internal.Sizes.{AreSized}
use Rattle.law_window.proofs.Sources.{AllPlaced, AreFrom, bytes_from}
use Rattle.law_window.specs.Persisted.{kept}
use Rattle.law_window.specs.Sources.{Given, Left, Source, sources_after}
use Rattle.law_window.specs.Together.{ArePlaced}

module _ (before bytes : List (List ℕ)) where
  still : (source : Source) (size : ℕ) (sources : List Source) (sizes : List ℕ) → AreFrom before (size ∷ sizes) (source ∷ sources) → bytes_from before source ≡ bytes_from (before ++ bytes) source
  still (Given given) size sources sizes from = refl
  still (Left unit) size sources sizes from = sym (get_or_append_left before bytes [] unit from.0)

  rest_from : (source : Source) (size : ℕ) (sources : List Source) (sizes : List ℕ) → AreFrom before (size ∷ sizes) (source ∷ sources) → AreFrom before sizes sources
  rest_from (Given given) size sources sizes from = from.1
  rest_from (Left unit) size sources sizes from = from.2

  -- the persisted bytes are where the sources are after the frame
  pub kept_is : (ran : NumberedFrame) → bytes ≡ all_bytes ran → (shapes : List Shape) (sizes : List ℕ) (places : List (Option ℕ)) (sources : List Source) → ArePlaced sizes places shapes → AreFrom before sizes sources → AllPlaced (λ x. is_import ran.units x ≡ true) places → kept ran places (map (bytes_from before) sources) ≡ map (bytes_from (before ++ bytes)) (sources_after (length before) places sources)
  kept_is ran is shapes [] [] [] placed from imported = refl
  kept_is ran is shapes [] [] (source ∷ sources) placed from imported = absurd from
  kept_is ran is shapes [] (place ∷ places) sources placed from imported = absurd placed
  kept_is ran is shapes (size ∷ sizes) [] sources placed from imported = absurd placed
  kept_is ran is shapes (size ∷ sizes) (place ∷ places) [] placed from imported = absurd from
  kept_is ran is shapes (size ∷ sizes) (None ∷ places) (source ∷ sources) placed from imported =
      ap₂ (λ b bs. b ∷ bs) (still source size sources sizes from) (kept_is ran is shapes sizes places sources placed (rest_from source size sources sizes from) imported)
  kept_is ran is shapes (size ∷ sizes) (Some x ∷ places) (source ∷ sources) placed from imported =
      let there : unwrap_or (if is_import ran.units x || list_any (stores_to x) ran.passes then Some (bytes_at (all_bytes ran) x) else None) [] ≡ bytes_at (before ++ bytes) (length before + x) =
      ap (λ b. unwrap_or (if b || list_any (stores_to x) ran.passes then Some (bytes_at (all_bytes ran) x) else None) []) imported.0 ∙ ap (λ b. bytes_at b x) (sym is) ∙ sym (get_or-append-add before bytes x []) in
      ap₂ (λ b bs. b ∷ bs) there (kept_is ran is shapes sizes places sources placed.3 (rest_from source size sources sizes from) imported.1)

  pub from_after : (shapes : List Shape) (sizes : List ℕ) (places : List (Option ℕ)) (sources : List Source) → ArePlaced sizes places shapes → AreFrom before sizes sources → AreSized shapes bytes → AreFrom (before ++ bytes) sizes (sources_after (length before) places sources)
  from_after shapes [] [] [] placed from S = tt
  from_after shapes [] [] (source ∷ sources) placed from S = absurd from
  from_after shapes [] (place ∷ places) sources placed from S = absurd placed
  from_after shapes (size ∷ sizes) [] sources placed from S = absurd placed
  from_after shapes (size ∷ sizes) (place ∷ places) [] placed from S = absurd from
  from_after shapes (size ∷ sizes) (None ∷ places) (Given given ∷ sources) placed from S = (from.0, from_after shapes sizes places sources placed from.1 S)
  from_after shapes (size ∷ sizes) (None ∷ places) (Left unit ∷ sources) placed from S =
      let sum : length (before ++ bytes) ≡ length before + length bytes = length-append before bytes in
      (omega (arith, from.0), ap length (get_or_append_left before bytes [] unit from.0) ∙ from.1, from_after shapes sizes places sources placed from.2 S)
  from_after shapes (size ∷ sizes) (Some x ∷ places) (source ∷ sources) placed from S =
      let sum : length (before ++ bytes) ≡ length before + length bytes = length-append before bytes in
      let inside : x < length bytes = subst (λ n. x < n) (sym S.count) placed.0 in
      (omega arith, ap length (get_or-append-add before bytes x []) ∙ S.sized x placed.0 ∙ ap bytes_of placed.1, from_after shapes sizes places sources placed.3 (rest_from source size sources sizes from) S)
