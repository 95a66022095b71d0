-- Where persisting bytes are, by names and by numbers.
use Rattle.std.proofs.Common.{◌≡◌, ℕ, zero, suc, ◌+◌, ◌++◌, List, [], ◌∷◌, length, map, replicate, slice_get, nat_lt, Option, Some, None, if◌then◌else◌, refl, sym, ap, ap₂, ◌∙◌, arith}
use Rattle.std.specs.List.{flat_map}
use Rattle.std.specs.Option.{option_map_or}
use Rattle.std.proofs.lemmas.List.{get_or-append-add, length-map, length-replicate, map-append}
use Rattle.base.specs.Shapes.{bytes_of, is_image, shape_at}
use Rattle.base.specs.declared.shape.Shape.TheVariants.{Buffer}
use Rattle.frame.specs.Units.{Numbering, layer_unit, stretches, unit_from, unit_of, units_from}
use Rattle.frame.specs.declared.frame.Resource.{Resource}
use Rattle.frame.specs.declared.numbered.Stretch.{Stretch}
use Rattle.law_window.proofs.Holders.{HaveOneLayer, OneLayer}
use Rattle.law_window.proofs.Numbering.{StandsIn, own_stands}
use Rattle.law_window.proofs.PassNumbers.{AreSingle, IsSingle, carry_of}
use Rattle.law_window.proofs.Stretches.{moved_stretch}
use Rattle.law_window.specs.Declared.{places_in, unit_at}
use Rattle.law_window.specs.NamedJoins.{named_carries, size_of, whole}
use Rattle.law_window.specs.Names.{numbered_name}
use Rattle.law_window.specs.NamedSources.{Kept, Named, NamedSource, named_after, named_import}
use Rattle.law_window.specs.Joins.{carries}
use Rattle.law_window.specs.Sources.{Given, Left, Source, import_from, sources_after}

abbrev pub source_of : Numbering → NamedSource → Source
source_of n (Kept bytes) = Given bytes
source_of n (Named name) = Left (unit_of n (whole name))

pub same_imports : (n : Numbering) (sources : List NamedSource) → map import_from (map (source_of n) sources) ≡ map named_import sources
same_imports n [] = refl
same_imports n (Kept bytes ∷ sources) = ap (λ is. Some bytes ∷ is) (same_imports n sources)
same_imports n (Named name ∷ sources) = ap (λ is. None ∷ is) (same_imports n sources)

-- the names are those of resources of one layer
abbrev pub AreNamed : Numbering → List NamedSource → Type 0
AreNamed n [] = Unit {0}
AreNamed n (Kept bytes ∷ sources) = AreNamed n sources
AreNamed n (Named name ∷ sources) = IsSingle n name × AreNamed n sources

-- THE STRETCH OF A RESOURCE OF ONE LAYER

record One (m : ℕ) (rs : List Resource) (k : ℕ) : Type 0 where
  stretch : Stretch
  got : slice_get (stretches m rs) k ≡ Some stretch
  first : stretch.first ≡ m + unit_at rs k
  single : stretch.layers ≡ 1

one : (m : ℕ) (rs : List Resource) (k : ℕ) → OneLayer rs k → One m rs k
one m [] k persisted = absurd persisted
one m (r ∷ rs) zero persisted = record { stretch = record { first = m; layers = r.layers; is_image = is_image r.shape }; got = refl; first = omega arith; single = persisted }
one m (r ∷ rs) (suc k) persisted = let O = one (m + r.layers) rs k persisted in record { stretch = O.stretch; got = O.got; first = O.first ∙ omega arith; single = O.single }

shape_there : (rs : List Resource) (k : ℕ) → OneLayer rs k → size_of rs k ≡ bytes_of (shape_at (map (λ u. u.shape) (flat_map units_from rs)) (unit_at rs k))
shape_there [] k persisted = absurd persisted
shape_there (r ∷ rs) zero persisted = sym (ap (λ m. bytes_of (shape_at (map (λ u. u.shape) (replicate m (unit_from r) ++ flat_map units_from rs)) 0)) persisted)
shape_there (r ∷ rs) (suc k) persisted =
    let own = map (λ u. u.shape) (units_from r) in
    let count : length own ≡ r.layers = length-map (units_from r) (λ u. u.shape) ∙ length-replicate r.layers (unit_from r) in
    shape_there rs k persisted
    ∙ sym (ap bytes_of (ap (λ s. shape_at s (r.layers + unit_at rs k)) (map-append (λ u. u.shape) (units_from r) (flat_map units_from rs)) ∙ ap (λ m. shape_at (own ++ map (λ u. u.shape) (flat_map units_from rs)) (m + unit_at rs k)) (sym count) ∙ get_or-append-add own (map (λ u. u.shape) (flat_map units_from rs)) (unit_at rs k) (Buffer 0)))

module _ (W : Numbering) (i n : ℕ) (rs : List Resource) (S : StandsIn W i n rs) where
  own_single : (k : ℕ) → OneLayer rs k → IsSingle W (numbered_name i k)
  own_single k persisted = let O = one 0 rs k persisted in record { stretch = moved_stretch n O.stretch; stands = own_stands W i n rs S k O.stretch O.got; single = O.single }

  own_unit : (k : ℕ) → OneLayer rs k → unit_of W (whole (numbered_name i k)) ≡ n + unit_at rs k
  own_unit k persisted =
      let O = one 0 rs k persisted in
      let first : (n + O.stretch.first) + 0 ≡ n + unit_at rs k = omega (arith, O.first) in
      ap (λ o. option_map_or (λ s. layer_unit s 0) o 0) (own_stands W i n rs S k O.stretch O.got) ∙ ap (λ m. if nat_lt 0 m then (n + O.stretch.first) + 0 else 0) O.single ∙ first

  pub after_named : (holders : List (Option ℕ)) (sources : List NamedSource) → HaveOneLayer rs holders → AreNamed W sources → AreNamed W (named_after i holders sources)
  after_named [] sources persisted named = named
  after_named (None ∷ holders) [] persisted named = tt
  after_named (Some k ∷ holders) [] persisted named = tt
  after_named (None ∷ holders) (Kept bytes ∷ sources) persisted named = after_named holders sources persisted named
  after_named (None ∷ holders) (Named name ∷ sources) persisted named = (named.0, after_named holders sources persisted named.1)
  after_named (Some k ∷ holders) (Kept bytes ∷ sources) persisted named = (own_single k persisted.0, after_named holders sources persisted.1 named)
  after_named (Some k ∷ holders) (Named name ∷ sources) persisted named = (own_single k persisted.0, after_named holders sources persisted.1 named.1)

  pub after_sources : (holders : List (Option ℕ)) (sources : List NamedSource) → HaveOneLayer rs holders → map (source_of W) (named_after i holders sources) ≡ sources_after n (places_in rs holders) (map (source_of W) sources)
  after_sources [] sources persisted = refl
  after_sources (None ∷ holders) [] persisted = refl
  after_sources (Some k ∷ holders) [] persisted = refl
  after_sources (None ∷ holders) (source ∷ sources) persisted = ap (λ ss. source_of W source ∷ ss) (after_sources holders sources persisted)
  after_sources (Some k ∷ holders) (source ∷ sources) persisted = ap₂ (λ u ss. Left u ∷ ss) (own_unit k persisted.0) (after_sources holders sources persisted.1)

  pub carries_single : (holders : List (Option ℕ)) (sources : List NamedSource) → HaveOneLayer rs holders → AreNamed W sources → AreSingle W (named_carries i rs holders sources)
  carries_single [] sources persisted named = tt
  carries_single (None ∷ holders) [] persisted named = tt
  carries_single (Some k ∷ holders) [] persisted named = tt
  carries_single (None ∷ holders) (Kept bytes ∷ sources) persisted named = carries_single holders sources persisted named
  carries_single (None ∷ holders) (Named name ∷ sources) persisted named = carries_single holders sources persisted named.1
  carries_single (Some k ∷ holders) (Kept bytes ∷ sources) persisted named = carries_single holders sources persisted.1 named
  carries_single (Some k ∷ holders) (Named name ∷ sources) persisted named = ((named.0, own_single k persisted.0), carries_single holders sources persisted.1 named.1)

  pub same_carries : (holders : List (Option ℕ)) (sources : List NamedSource) → HaveOneLayer rs holders → map (carry_of W) (named_carries i rs holders sources) ≡ carries n (map (λ u. u.shape) (flat_map units_from rs)) (places_in rs holders) (map (source_of W) sources)
  same_carries [] sources persisted = refl
  same_carries (None ∷ holders) [] persisted = refl
  same_carries (Some k ∷ holders) [] persisted = refl
  same_carries (None ∷ holders) (source ∷ sources) persisted = same_carries holders sources persisted
  same_carries (Some k ∷ holders) (Kept bytes ∷ sources) persisted = same_carries holders sources persisted.1
  same_carries (Some k ∷ holders) (Named name ∷ sources) persisted =
      ap₂ (λ u m. record { from = unit_of W (whole name); to = u; size = m } ∷ map (carry_of W) (named_carries i rs holders sources)) (own_unit k persisted.0) (shape_there rs k persisted.0)
      ∙ ap (λ cs. record { from = unit_of W (whole name); to = n + unit_at rs k; size = bytes_of (shape_at (map (λ u. u.shape) (flat_map units_from rs)) (unit_at rs k)) } ∷ cs) (same_carries holders sources persisted.1)
