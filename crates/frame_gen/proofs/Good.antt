-- A generated frame, numbered.
use Rattle.std.proofs.Common.{◌≡◌, ℕ, ◌≤◌, replicate, ap, ap₂, ◌∙◌, subst, sym}
use Rattle.std.specs.List.{range_with_len}
use Rattle.std.proofs.lemmas.List.FromFn.{length-range_with_len}
use Rattle.frame.specs.Valid.{IsValid}
use Rattle.frame.specs.Numbered.{numbered}
use Rattle.frame_gen.specs.Internal.Numbers.{image, generated_numbers}
use Rattle.frame_gen.specs.Generated.{exported, generated}
use Rattle.frame_gen.proofs.Exported.{exported_small}
use Rattle.frame_gen.proofs.GoodNumbers.{good_numbers}
use Rattle.frame_gen.proofs.Numbering.{all_units, passes_are, range_below, units_are}

module _ (number n : ℕ) (few : n ≤ 256) where
  numbers_are : numbered (generated number n) ≡ generated_numbers number n
  numbers_are =
      let units = units_are (range_with_len 0 n) ∙ ap (λ m. replicate m image) (length-range_with_len 0 n) in
      ap₂ (λ us ps. record { units = us; queues = (generated_numbers number n).queues; passes = ps; exports = (numbered (generated number n)).exports }) units (passes_are n few number (range_with_len 0 n) (range_below n))
      ∙ ap (λ es. record { units = replicate n image; queues = (generated_numbers number n).queues; passes = (generated_numbers number n).passes; exports = es }) (all_units n few (exported n) (exported_small n))

  pub is_good : IsValid (numbered (generated number n))
  is_good = subst IsValid (sym numbers_are) (good_numbers number n few)
